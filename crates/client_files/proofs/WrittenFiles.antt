-- Files that are written are read back.
use Rattle.std.proofs.Common.{◌≡◌, ℕ, ◌+◌, ◌<◌, ◌≤◌, inl, inr, List, [], ◌∷◌, ◌++◌, length, take, get_or, map, refl, sym, ap, ◌∙◌, subst, arith, Bool, true, false, append_assoc}
use Rattle.std.specs.Prelude.{◌==◌, ◌&&◌, not, IsUtf8, nat_lt, nat_le, codes, slice_index_or}
use Rattle.std.specs.Fmt.{decimal}
use Rattle.std.specs.List.{All, AllByRecursion, list_all, slice_split, flat_map}
use Rattle.std.specs.Str.Parse.{AllDigits}
use Rattle.std.proofs.lemmas.Bool.{eqb-true, cases_Bool, not-true, and_from}
use Rattle.std.proofs.lemmas.Grind.{flat_map-append}
use Rattle.std.proofs.Math.Seq.{take-append_seam}
use Rattle.std.proofs.lemmas.List.{append-nil, map-append, take_all, take_more}
use Rattle.std.proofs.lemmas.List.Elements.{All-cons, All-head, All-tail}
use Rattle.std.proofs.lemmas.Str.{IsUtf8-from_ascii}
use Rattle.std.proofs.lemmas.Str.Ascii.{IsAscii-from_all}
use Rattle.std.proofs.lemmas.Fmt.{decimal_is_IsNumeral}
use Rattle.std.proofs.lemmas.List.Folds.{list_all-append}
use Rattle.std.proofs.lemmas.List.Splits.{slice_split_at, slice_split_none}
use Rattle.std.proofs.lemmas.List.Sums.{AllPass-from_list_all}
use Rattle.std.proofs.lemmas.Str.Parse.{digit_from_value}
use Rattle.cost_num.specs.declared.TheConstants.{CAP}
use Rattle.cost_num.specs.declared.Cost.{Cost}
use Rattle.cost_num.specs.Amount.{Spells}
use Rattle.cost_num.specs.CostText.{amount_text, cost_text}
use Rattle.cost_num.proofs.PrintedAmounts.{printed_read_back}
use Rattle.client_files.specs.declared.client.Client.{Client}
use Rattle.client_files.specs.declared.heading.Version.{Version}
use Rattle.client_files.specs.declared.heading.Version.TheVariants.{One, Two}
use Rattle.client_files.specs.Lines.{is_space, is_line_feed, but_an_empty_last, ended, lines_of, words_of}
use Rattle.client_files.specs.Headings.{version_line, window_line, IsWindow}
use Rattle.client_files.specs.ClientLines.{is_key_byte, is_key, carry_words, Allows, IsClientLine}
use Rattle.client_files.specs.ClientFiles.{AreClientLines, MayBeNamed, MayBeServed, AreFileLines, IsClientFile}
use Rattle.client_files.specs.Written.{carry_end, client_line, file_lines, client_file}
use Rattle.client_files.proofs.Lines.{last_empty}

-- a byte that stands in no key, no amount and no heading ends a part

abbrev pub Lacks : (ℕ → Bool) → List ℕ → Type 0
Lacks test bytes = list_all (λ byte. not (test byte)) bytes ≡ true

lacks_all : (test : ℕ → Bool) (bytes : List ℕ) → Lacks test bytes → All (λ byte. test byte ≡ false) bytes
lacks_all test bytes lacks k d low = not-true (test (slice_index_or bytes k d)) (AllPass-from_list_all (λ byte. not (test byte)) bytes lacks k d low)

lacks_append : (test : ℕ → Bool) (xs ys : List ℕ) → Lacks test xs → Lacks test ys → Lacks test (xs ++ ys)
lacks_append test xs ys x y = list_all-append (λ byte. not (test byte)) xs ys ∙ and_from (list_all (λ byte. not (test byte)) xs) (list_all (λ byte. not (test byte)) ys) x y

-- from a fact on each byte

lacks_each : (test : ℕ → Bool) (P : ℕ → Type 0) → ((byte : ℕ) → P byte → test byte ≡ false) → (bytes : List ℕ) → AllByRecursion P bytes → Lacks test bytes
lacks_each test P no_test [] each = refl
lacks_each test P no_test (b ∷ bs) each = and_from (not (test b)) (list_all (λ byte. not (test byte)) bs) (ap not (no_test b each.0)) (lacks_each test P no_test bs each.1)

-- the bytes of amounts: digits and the dot

abbrev IsAmountByte : ℕ → Type 0
IsAmountByte byte = (46 ≤ byte) × (byte ≤ 57)

digits_each : (digits : List ℕ) → AllDigits 10 digits → AllByRecursion IsAmountByte digits
digits_each [] all = tt
digits_each (d ∷ ds) all = let range = digit_from_value d all.0 in ((omega (arith, range.0), range.1), digits_each ds all.1)

each_append : (P : ℕ → Type 0) (xs ys : List ℕ) → AllByRecursion P xs → AllByRecursion P ys → AllByRecursion P (xs ++ ys)
each_append P [] ys x y = y
each_append P (b ∷ bs) ys x y = (x.0, each_append P bs ys x.1 y)

amount_each : (text : List ℕ) (amount : ℕ) → Spells text amount → AllByRecursion IsAmountByte text
amount_each text amount spelled = elim (spelled.splits.rest) [
  | inl plain ↦ subst (AllByRecursion IsAmountByte) (sym plain.1) (digits_each spelled.whole spelled.splits.digits.1)
  | inr dotted ↦ subst (AllByRecursion IsAmountByte) (sym dotted.1) (each_append IsAmountByte spelled.whole (46 ∷ spelled.fraction) (digits_each spelled.whole spelled.splits.digits.1) ((omega arith, omega arith), digits_each spelled.fraction dotted.0.1))
]

is_not : (byte other : ℕ) → (byte ≡ other → ⊥) → (byte == other) ≡ false
is_not byte other apart = elim (cases_Bool (byte == other)) [
  | inl same ↦ absurd (apart (eqb-true byte other same))
  | inr none ↦ none
]

printed_each : (amount : ℕ) → amount ≤ CAP → AllByRecursion IsAmountByte (amount_text amount)
printed_each amount within = amount_each (amount_text amount) amount (printed_read_back amount within).spells

amount_lacks : (other : ℕ) → other < 46 → (amount : ℕ) → amount ≤ CAP → Lacks (λ byte. byte == other) (amount_text amount)
amount_lacks other low amount within = lacks_each (λ byte. byte == other) IsAmountByte (λ byte range. is_not byte other (λ same. omega (arith, same, low, range.0))) (amount_text amount) (printed_each amount within)

-- a printed cost is ASCII
ascii_each : (bytes : List ℕ) → AllByRecursion IsAmountByte bytes → AllByRecursion (λ byte. byte < 128) bytes
ascii_each [] each = tt
ascii_each (b ∷ bs) each = (omega (arith, each.0.1), ascii_each bs each.1)

pub cost_each : (cost : Cost) → cost.types ≤ CAP → cost.fields ≤ CAP → AllByRecursion (λ byte. byte < 128) (cost_text cost)
cost_each cost types fields = each_append (λ byte. byte < 128) (amount_text cost.types) (32 ∷ amount_text cost.fields) (ascii_each (amount_text cost.types) (printed_each cost.types types)) (omega arith, ascii_each (amount_text cost.fields) (printed_each cost.fields fields))

all_each : {X : Type 0} (P : X → Type 0) (xs : List X) → AllByRecursion P xs → All P xs
all_each P [] each = λ k d low. absurd (omega (arith, low))
all_each P (x ∷ xs) each = All-cons P x xs each.0 (all_each P xs each.1)

pub printed_utf8 : (cost : Cost) → cost.types ≤ CAP → cost.fields ≤ CAP → IsUtf8 (cost_text cost)
printed_utf8 cost types fields = IsUtf8-from_ascii (cost_text cost) (IsAscii-from_all (cost_text cost) (all_each (λ byte. byte < 128) (cost_text cost) (cost_each cost types fields)))

-- the bytes of keys

each_of : (test : ℕ → Bool) (bytes : List ℕ) → list_all test bytes ≡ true → AllByRecursion (λ byte. test byte ≡ true) bytes
each_of test [] all = tt
each_of test (b ∷ bs) all = (left_true (test b) (list_all test bs) all, each_of test bs (right_true (test b) (list_all test bs) all))
  where
    left_true : (a b : Bool) → (a && b) ≡ true → a ≡ true
    left_true true b h = refl
    left_true false b h = h

    right_true : (a b : Bool) → (a && b) ≡ true → b ≡ true
    right_true true b h = h
    right_true false b h = cc

second_true : (a b : Bool) → (a && b) ≡ true → b ≡ true
second_true true b h = h
second_true false b h = cc

key_lacks : (other : ℕ) → is_key_byte other ≡ false → (key : List ℕ) → is_key key ≡ true → Lacks (λ byte. byte == other) key
key_lacks other none key well = lacks_each (λ byte. byte == other) (λ byte. is_key_byte byte ≡ true) (λ byte is. is_not byte other (λ same. let h = subst (λ b. is_key_byte b ≡ true) same is in cc)) key
    (each_of is_key_byte key (second_true (nat_le (length key) 64) (list_all is_key_byte key) (second_true (nat_lt 0 (length key)) (nat_le (length key) 64 && list_all is_key_byte key) well)))

-- the words of the line of a client

tail_words : (carry : Bool) (fields : List ℕ) → Lacks is_space fields → slice_split is_space (fields ++ carry_end carry) ≡ fields ∷ carry_words carry
tail_words true fields lacks = slice_split_at is_space fields 32 (codes "carry") (lacks_all is_space fields lacks) refl
tail_words false fields lacks = ap (slice_split is_space) (append-nil fields) ∙ slice_split_none is_space fields (lacks_all is_space fields lacks)

module _ (client : Client) (may : MayBeNamed client) where
  line_words : words_of (client_line client) ≡ client.key ∷ amount_text client.allowance.types ∷ amount_text client.allowance.fields ∷ carry_words client.carry
  unfolding words_of
  line_words =
      slice_split_at is_space client.key 32 (cost_text client.allowance ++ carry_end client.carry) (lacks_all is_space client.key (key_lacks 32 refl client.key may.key)) refl
      ∙ ap (λ parts. client.key ∷ parts) (ap (slice_split is_space) (append_assoc (amount_text client.allowance.types) (32 ∷ amount_text client.allowance.fields) (carry_end client.carry))
      ∙ (slice_split_at is_space (amount_text client.allowance.types) 32 (amount_text client.allowance.fields ++ carry_end client.carry) (lacks_all is_space (amount_text client.allowance.types) (amount_lacks 32 (omega arith) client.allowance.types may.types)) refl
      ∙ ap (λ parts. amount_text client.allowance.types ∷ parts) (tail_words client.carry (amount_text client.allowance.fields) (amount_lacks 32 (omega arith) client.allowance.fields may.fields))))

  line_named : IsClientLine Two (client_line client) client
  line_named = record {
    key = client.key;
    types = amount_text client.allowance.types;
    fields = amount_text client.allowance.fields;
    carry = client.carry;
    words = line_words;
    client_is = record {
      key_is = refl;
      carry_is = refl;
      well_formed = may.key;
      allowance = record {
        types_spelled = printed_read_back client.allowance.types may.types;
        fields_spelled = printed_read_back client.allowance.fields may.fields;
      };
      allowed = may.carried;
    };
  }

  end_lacks : (carry : Bool) → Lacks is_line_feed (carry_end carry)
  end_lacks true = refl
  end_lacks false = refl

  line_lacks : Lacks is_line_feed (client_line client)
  line_lacks = lacks_append is_line_feed client.key ((32 ∷ cost_text client.allowance) ++ carry_end client.carry) (key_lacks 10 refl client.key may.key)
      (lacks_append is_line_feed (32 ∷ cost_text client.allowance) (carry_end client.carry)
      (lacks_append is_line_feed (amount_text client.allowance.types) (32 ∷ amount_text client.allowance.fields) (amount_lacks 10 (omega arith) client.allowance.types may.types) (amount_lacks 10 (omega arith) client.allowance.fields may.fields))
      (end_lacks client.carry))

-- lines that are ended are the lines of their text

split_ended : (lines : List (List ℕ)) → AllByRecursion (Lacks is_line_feed) lines → slice_split is_line_feed (flat_map ended lines) ≡ lines ++ [] ∷ []
split_ended [] each = refl
split_ended (l ∷ ls) each = ap (slice_split is_line_feed) (append_assoc l (10 ∷ []) (flat_map ended ls)) ∙ (slice_split_at is_line_feed l 10 (flat_map ended ls) (lacks_all is_line_feed l each.0) refl ∙ ap (λ parts. l ∷ parts) (split_ended ls each.1))

lines_back : (lines : List (List ℕ)) → AllByRecursion (Lacks is_line_feed) lines → lines_of (flat_map ended lines) ≡ lines
unfolding lines_of
lines_back lines each = ap but_an_empty_last (split_ended lines each) ∙ last_empty lines [] refl

window_lacks : (seconds : ℕ) → IsWindow seconds → Lacks is_line_feed (window_line seconds)
window_lacks seconds window = lacks_append is_line_feed (codes "window ") (decimal seconds) refl
    (lacks_each is_line_feed IsAmountByte (λ byte range. is_not byte 10 (λ same. omega (arith, same, range.0))) (decimal seconds) (digits_each (decimal seconds) (decimal_is_IsNumeral seconds (omega (arith, window.1))).0.1))

client_lines_lack : (clients : List Client) → All MayBeNamed clients → AllByRecursion (Lacks is_line_feed) (map client_line clients)
client_lines_lack [] may = tt
client_lines_lack (c ∷ cs) may = (line_lacks c (All-head MayBeNamed c cs may), client_lines_lack cs (All-tail MayBeNamed c cs may))

client_lines_named : (clients : List Client) → All MayBeNamed clients → AreClientLines Two (map client_line clients) clients
client_lines_named [] may = tt
client_lines_named (c ∷ cs) may = (line_named c (All-head MayBeNamed c cs may), client_lines_named cs (All-tail MayBeNamed c cs may))

pub written_is_read : (seconds : ℕ) (clients : List Client) → MayBeServed seconds clients → IsClientFile (client_file seconds clients) seconds clients
unfolding client_file
written_is_read seconds clients may = record {
  version = Two;
  second = window_line seconds;
  further = map client_line clients;
  cut = lines_back (file_lines seconds clients) (refl, (window_lacks seconds may.window, client_lines_lack clients may.each));
  window = record { text = refl; window = may.window };
  named = client_lines_named clients may.each;
  some = may.some;
  few = may.few;
  distinct = may.distinct;
}

-- what a file says may be served

carries : (version : Version) (allowance : Cost) (carry : Bool) → Allows version allowance carry → Allows Two allowance carry
carries One allowance carry allowed = λ yes'. let h = sym allowed.0 ∙ yes' in cc
carries Two allowance carry allowed = allowed

may_be_named : (version : Version) (line : List ℕ) (client : Client) → IsClientLine version line client → MayBeNamed client
may_be_named version line client named =
    let is = named.client_is in
    record {
      key = ap is_key is.key_is ∙ is.well_formed;
      types = is.allowance.types_spelled.in_range;
      fields = is.allowance.fields_spelled.in_range;
      carried = carries version client.allowance client.carry (subst (Allows version client.allowance) (sym is.carry_is) is.allowed);
    }

all_may_be : (version : Version) (lines : List (List ℕ)) (clients : List Client) → AreClientLines version lines clients → AllByRecursion MayBeNamed clients
all_may_be version [] [] named = tt
all_may_be version [] (c ∷ cs) named = absurd named
all_may_be version (l ∷ ls) [] named = absurd named
all_may_be version (l ∷ ls) (c ∷ cs) named = (may_be_named version l c named.0, all_may_be version ls cs named.1)

pub read_may_be_served : (lines : List (List ℕ)) (seconds : ℕ) (clients : List Client) → AreFileLines lines seconds clients → MayBeServed seconds clients
read_may_be_served lines seconds clients file = record {
  window = file.window.window;
  each = all_each MayBeNamed clients (all_may_be file.version file.further clients file.named);
  some = file.some;
  few = file.few;
  distinct = file.distinct;
}

-- the loop that writes a file

pub front_text : (text rest into : List ℕ) (n : ℕ) → n ≡ length text → into ≡ text ++ rest → take n into ≡ text
front_text text rest into n count is = (λ i. take (count i) (is i)) ∙ take-append_seam text rest

pub first_lines : (seconds : ℕ) (file : List ℕ) → file ≡ codes "clients 2\nwindow " ++ (decimal seconds ++ codes "\n") → file ≡ flat_map ended (file_lines seconds [])
first_lines seconds file is = is ∙ ap (λ text. codes "clients 2\nwindow " ++ text) (sym (append-nil (decimal seconds ++ codes "\n")))

pub more_lines : (seconds : ℕ) (clients : List Client) (at : ℕ) (client : Client) → at < length clients → client ≡ get_or clients at client → (old new : List ℕ) → old ≡ flat_map ended (file_lines seconds (take at clients)) → new ≡ old ++ ended (client_line client)
    → new ≡ flat_map ended (file_lines seconds (take (at + 1) clients))
more_lines seconds clients at client low is old new so_far more =
    let before = file_lines seconds (take at clients) in
    let taken : take (at + 1) clients ≡ take at clients ++ client ∷ [] = take_more clients at client low ∙ ap (λ c. take at clients ++ c ∷ []) (sym is) in
    let lines : file_lines seconds (take (at + 1) clients) ≡ before ++ client_line client ∷ [] = ap (file_lines seconds) taken ∙ ap (λ ls. version_line Two ∷ window_line seconds ∷ ls) (map-append client_line (take at clients) (client ∷ [])) in
    more ∙ (ap (λ text. text ++ ended (client_line client)) so_far
    ∙ sym (ap (flat_map ended) lines ∙ (flat_map-append ended before (client_line client ∷ []) ∙ ap (λ text. flat_map ended before ++ text) (append-nil (ended (client_line client))))))

pub all_lines : (seconds : ℕ) (clients : List Client) (at : ℕ) (file : List ℕ) → length clients ≤ at → file ≡ flat_map ended (file_lines seconds (take at clients)) → file ≡ client_file seconds clients
unfolding client_file
all_lines seconds clients at file end is = is ∙ ap (λ cs. flat_map ended (file_lines seconds cs)) (take_all at clients end)

-- Lines that name clients, one each.
use Rattle.std.proofs.Common.{◌≡◌, ℕ, suc, ◌+◌, List, [], ◌∷◌, ◌++◌, length, take, map, refl, sym, ap, ◌∙◌, arith, Bool, true, false}
use Rattle.std.specs.Prelude.{cond, not}
use Rattle.std.specs.List.{before_first, prefix_len, slice_split, onto_first}
use Rattle.cost_num.specs.declared.Cost.{Cost}
use Rattle.cost_num.proofs.AmountTexts.{spelled_amount}
use Rattle.client_files.specs.declared.client.Client.{Client}
use Rattle.client_files.specs.declared.heading.Version.{Version}
use Rattle.client_files.specs.Lines.{is_space, words_of}
use Rattle.client_files.specs.ClientLines.{IsClientLine}
use Rattle.client_files.specs.ClientFiles.{AreClientLines, keys_of}
use Rattle.client_files.specs.Faults.{first_word}
use Rattle.client_files.proofs.ClientLines.{has_words}

-- one line more with one client more
pub named_more : (version : Version) (lines : List (List ℕ)) (clients : List Client) (line : List ℕ) (client : Client) → AreClientLines version lines clients → IsClientLine version line client → AreClientLines version (lines ++ line ∷ []) (clients ++ client ∷ [])
named_more version [] [] line client named is = (is, tt)
named_more version [] (c ∷ cs) line client named is = absurd named
named_more version (l ∷ ls) [] line client named is = absurd named
named_more version (l ∷ ls) (c ∷ cs) line client named is = (named.0, named_more version ls cs line client named.1 is)

-- there are as many
pub named_length : (version : Version) (lines : List (List ℕ)) (clients : List Client) → AreClientLines version lines clients → length lines ≡ length clients
named_length version [] [] named = refl
named_length version [] (c ∷ cs) named = absurd named
named_length version (l ∷ ls) [] named = absurd named
named_length version (l ∷ ls) (c ∷ cs) named = ap suc (named_length version ls cs named.1)

-- the line behind some of them names a client
pub named_at : (version : Version) (before : List (List ℕ)) (line : List ℕ) (after : List (List ℕ)) (clients : List Client) → AreClientLines version (before ++ (line ∷ after)) clients → (client : Client) × IsClientLine version line client
named_at version [] line after [] named = absurd named
named_at version [] line after (c ∷ cs) named = (c, named.0)
named_at version (l ∷ ls) line after [] named = absurd named
named_at version (l ∷ ls) line after (c ∷ cs) named = named_at version ls line after cs named.1

-- the first word of such a line is its client's key

first_part : (bytes : List ℕ) → (more : List (List ℕ)) × (slice_split is_space bytes ≡ before_first is_space bytes ∷ more)
first_part [] = ([], refl)
first_part (b ∷ bs) = by_space (is_space b) (first_part bs)
  where
    by_space : (space : Bool) → (more : List (List ℕ)) × (slice_split is_space bs ≡ before_first is_space bs ∷ more)
        → (more : List (List ℕ)) × (cond space ([] ∷ slice_split is_space bs) (onto_first b (slice_split is_space bs)) ≡ take (cond (not space) (1 + prefix_len (λ c. not (is_space c)) bs) 0) (b ∷ bs) ∷ more)
    by_space true rest = (slice_split is_space bs, refl)
    by_space false rest = (rest.0, ap (onto_first b) rest.1 ∙ ap (λ n. take n (b ∷ bs) ∷ rest.0) {x = suc (prefix_len (λ c. not (is_space c)) bs)} (omega arith))

abbrev head : List (List ℕ) → List ℕ
head [] = []
head (word ∷ words) = word

key_first : (version : Version) (line : List ℕ) (client : Client) → IsClientLine version line client → first_word line ≡ client.key
unfolding words_of
key_first version line client named =
    let parts = first_part line in
    ap head (sym parts.1 ∙ named.words) ∙ sym named.client_is.key_is

pub first_words : (version : Version) (lines : List (List ℕ)) (clients : List Client) → AreClientLines version lines clients → map first_word lines ≡ keys_of clients
first_words version [] [] named = refl
first_words version [] (c ∷ cs) named = absurd named
first_words version (l ∷ ls) [] named = absurd named
first_words version (l ∷ ls) (c ∷ cs) named = (λ i. key_first version l c named.0 i ∷ first_words version ls cs named.1 i)

-- a line names one client

same_cost : (one other : Cost) → one.types ≡ other.types → one.fields ≡ other.fields → one ≡ other
same_cost one other types fields = λ i. record { types = types i; fields = fields i }

same_client : (one other : Client) → one.key ≡ other.key → one.allowance ≡ other.allowance → one.carry ≡ other.carry → one ≡ other
same_client one other key allowance carry = λ i. record { key = key i; allowance = allowance i; carry = carry i }

pub one_client : (version : Version) (line : List ℕ) (client other : Client) → IsClientLine version line client → IsClientLine version line other → client ≡ other
one_client version line client other one two =
    let a = one.client_is in
    let b = has_words version line one.key one.types one.fields one.carry one.words other two in
    same_client client other (a.key_is ∙ sym b.key_is)
    (same_cost client.allowance other.allowance
    (spelled_amount one.types client.allowance.types a.allowance.types_spelled.spells ∙ sym (spelled_amount one.types other.allowance.types b.allowance.types_spelled.spells))
    (spelled_amount one.fields client.allowance.fields a.allowance.fields_spelled.spells ∙ sym (spelled_amount one.fields other.allowance.fields b.allowance.fields_spelled.spells)))
    (a.carry_is ∙ sym b.carry_is)

pub same_clients : (version : Version) (lines : List (List ℕ)) (clients others : List Client) → AreClientLines version lines clients → AreClientLines version lines others → clients ≡ others
same_clients version [] [] [] one two = refl
same_clients version [] [] (o ∷ os) one two = absurd two
same_clients version [] (c ∷ cs) os one two = absurd one
same_clients version (l ∷ ls) [] os one two = absurd one
same_clients version (l ∷ ls) (c ∷ cs) [] one two = absurd two
same_clients version (l ∷ ls) (c ∷ cs) (o ∷ os) one two = (λ i. one_client version l c o one.0 two.0 i ∷ same_clients version ls cs os one.1 two.1 i)

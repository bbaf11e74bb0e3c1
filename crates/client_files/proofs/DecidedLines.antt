-- Whether a line is of its form is decided.
use Rattle.std.proofs.Common.{◌≡◌, ℕ, zero, suc, ◌<◌, ◌≤◌, ◌⊎◌, inl, inr, List, [], ◌∷◌, length, refl, sym, ap, ◌∙◌, subst, arith, Bool, true, false, Result, Ok, Err, codes}
use Rattle.std.specs.Prelude.{◌%◌}
use Rattle.std.specs.Str.{bytes_eq}
use Rattle.std.proofs.lemmas.Bool.{cases_Bool, cases_lt, cases_eq}
use Rattle.std.proofs.lemmas.Slice.Eq.{bytes_eq-Decides}
use Rattle.cost_num.specs.declared.TheConstants.{CAP}
use Rattle.cost_num.specs.declared.Cost.{Cost}
use Rattle.cost_num.specs.declared.weights.WeightFault.{WeightFault}
use Rattle.cost_num.specs.Amount.{IsAmount, Reads}
use Rattle.cost_num.proofs.AmountTexts.{spelled_amount}
use Rattle.cost_num.proofs.OneReading.{reads_some, reads_same}
use Rattle.client_files.specs.Limits.{window_limit, carry_limit, thousandth}
use Rattle.client_files.specs.declared.client.Client.{Client}
use Rattle.client_files.specs.declared.heading.Version.{Version}
use Rattle.client_files.specs.declared.heading.Version.TheVariants.{One, Two}
use Rattle.client_files.specs.Lines.{words_of}
use Rattle.client_files.specs.Headings.{version_line, window_line, IsWindowLine}
use Rattle.client_files.specs.ClientLines.{is_key, carry_words, Allows, IsClient, IsClientLine}
use Rattle.client_files.proofs.ClientLines.{named_by_words, has_words}

-- some thing is so, or none is
abbrev pub Decided : {T : Type 0} → (T → Type 0) → Type 0
Decided {T} P = ((found : T) × P found) ⊎ ((any : T) → ¬ (P any))

same_text : (one other : List ℕ) → (one ≡ other) ⊎ ¬ (one ≡ other)
same_text one other = elim (cases_Bool (bytes_eq one other)) [
  | inl same ↦ inl ((bytes_eq-Decides one other).0 same)
  | inr apart ↦ inr (λ same. let equal = (bytes_eq-Decides one other).1 same in cc)
]

-- the first line

no_version : (line : List ℕ) → ¬ (line ≡ version_line One) → ¬ (line ≡ version_line Two) → (version : Version) → ¬ (line ≡ version_line version)
no_version line one two One is = one is
no_version line one two Two is = two is

pub version_decided : (line : List ℕ) → Decided (λ version. line ≡ version_line version)
version_decided line = elim (same_text line (version_line One)) [
  | inl is ↦ inl (One, is)
  | inr one ↦ elim (same_text line (version_line Two)) [
    | inl is ↦ inl (Two, is)
    | inr two ↦ inr (no_version line one two)
  ]
]

-- the second line

window_within : (line : List ℕ) (most : ℕ) → most ≤ window_limit → ((seconds : ℕ) × IsWindowLine line seconds) ⊎ ((seconds : ℕ) → seconds ≤ most → ¬ (IsWindowLine line seconds))
window_within line zero within = inr (λ seconds few is. absurd (omega (arith, few, is.window.0)))
window_within line (suc most) within = elim (window_within line most (omega (arith, within))) [
  | inl found ↦ inl found
  | inr none ↦ elim (same_text line (window_line (suc most))) [
    | inl same ↦ inl (suc most, record { text = same; window = (omega arith, within) })
    | inr other ↦ inr (λ seconds few is. elim (cases_lt most seconds) [
      | inl past ↦ other (is.text ∙ ap window_line {x = seconds} {y = suc most} (omega (arith, past, few)))
      | inr before ↦ none seconds before is
    ])
  ]
]

pub window_decided : (line : List ℕ) → Decided (IsWindowLine line)
window_decided line = elim (window_within line window_limit (omega arith)) [
  | inl found ↦ inl found
  | inr none ↦ inr (λ seconds is. none seconds is.window.1 is)
]

-- the line of a client

by_reading : (text : List ℕ) (read : Result ℕ WeightFault) → Reads CAP text read → Decided (IsAmount CAP text)
by_reading text (Ok amount) reads = inl (amount, reads)
by_reading text (Err fault) reads = inr (λ amount is. let same = reads_same CAP text (Ok amount) (Err fault) is reads in cc)

amount_decided : (text : List ℕ) → Decided (IsAmount CAP text)
amount_decided text = let read = reads_some CAP text in by_reading text read.0 read.1

allows_decided : (version : Version) (allowance : Cost) (carry : Bool) → Allows version allowance carry ⊎ ¬ (Allows version allowance carry)
allows_decided One allowance true = inr (λ allowed. let never = allowed.0 in cc)
allows_decided One allowance false = elim (cases_eq (allowance.types % thousandth) 0) [
  | inr finer ↦ inr (λ allowed. finer allowed.1)
  | inl types ↦ elim (cases_eq (allowance.fields % thousandth) 0) [
    | inr finer ↦ inr (λ allowed. finer allowed.2)
    | inl fields ↦ inl (refl, types, fields)
  ]
]
allows_decided Two allowance false = inl (λ carries. cc)
allows_decided Two allowance true = elim (cases_lt carry_limit allowance.types) [
  | inl above ↦ inr (λ allowed. let within = allowed refl in omega (arith, above, within.0))
  | inr types ↦ elim (cases_lt carry_limit allowance.fields) [
    | inl above ↦ inr (λ allowed. let within = allowed refl in omega (arith, above, within.1))
    | inr fields ↦ inl (λ carries. (types, fields))
  ]
]

module _ (version : Version) (key types fields : List ℕ) (carry : Bool) where
  -- the allowance of a client is what the two texts spell
  same_allowed : (client : Client) (one other : ℕ) → IsAmount CAP types one → IsAmount CAP fields other → IsClient version key types fields carry client → Allows version (record { types = one; fields = other }) carry
  same_allowed client one other types_are fields_are is =
      let first : client.allowance.types ≡ one = spelled_amount types client.allowance.types is.allowance.types_spelled.spells ∙ sym (spelled_amount types one types_are.spells) in
      let second : client.allowance.fields ≡ other = spelled_amount fields client.allowance.fields is.allowance.fields_spelled.spells ∙ sym (spelled_amount fields other fields_are.spells) in
      let half = subst (λ t. Allows version (record { types = t; fields = client.allowance.fields }) carry) first is.allowed in
      subst (λ f. Allows version (record { types = one; fields = f }) carry) second half

  client_allowed : is_key key ≡ true → (types_spelled : (one : ℕ) × IsAmount CAP types one) (fields_spelled : (other : ℕ) × IsAmount CAP fields other) → Decided (IsClient version key types fields carry)
  client_allowed formed one other = elim (allows_decided version (record { types = one.0; fields = other.0 }) carry) [
    | inr refused ↦ inr (λ client is. refused (same_allowed client one.0 other.0 one.1 other.1 is))
    | inl allowed ↦ inl (
      record { key = key; allowance = record { types = one.0; fields = other.0 }; carry = carry },
      record { key_is = refl; carry_is = refl; well_formed = formed; allowance = record { types_spelled = one.1; fields_spelled = other.1 }; allowed = allowed },
    )
  ]

  client_decided : Decided (IsClient version key types fields carry)
  client_decided = elim (cases_Bool (is_key key)) [
    | inr no_key ↦ inr (λ client is. let formed = is.well_formed in cc)
    | inl formed ↦ elim (amount_decided types) [
      | inr none ↦ inr (λ client is. none client.allowance.types is.allowance.types_spelled)
      | inl one ↦ elim (amount_decided fields) [
        | inr none ↦ inr (λ client is. none client.allowance.fields is.allowance.fields_spelled)
        | inl other ↦ client_allowed formed one other
      ]
    ]
  ]

no_mark : (mark : List ℕ) → ¬ (mark ≡ codes "carry") → (carry : Bool) → ¬ (◌≡◌ {A = List (List ℕ)} (mark ∷ []) (carry_words carry))
no_mark mark other true is = other cc
no_mark mark other false is = cc

not_two : (mark more : List ℕ) (further : List (List ℕ)) (carry : Bool) → ¬ (◌≡◌ {A = List (List ℕ)} (mark ∷ more ∷ further) (carry_words carry))
not_two mark more further true is = absurd (omega (arith, ap length is))
not_two mark more further false is = absurd (omega (arith, ap length is))

mark_decided : (words : List (List ℕ)) → Decided (λ carry. words ≡ carry_words carry)
mark_decided [] = inl (false, refl)
mark_decided (mark ∷ []) = elim (same_text mark (codes "carry")) [
  | inl same ↦ inl (true, ap (λ word. word ∷ []) same)
  | inr other ↦ inr (no_mark mark other)
]
mark_decided (mark ∷ more ∷ further) = inr (not_two mark more further)

abbrev past_three : List (List ℕ) → List (List ℕ)
past_three (key ∷ types ∷ fields ∷ words) = words
past_three _ = []

module _ (version : Version) (line : List ℕ) where
  short : (words : List (List ℕ)) → words_of line ≡ words → length words < 3 → (client : Client) → ¬ (IsClientLine version line client)
  short words are few client named = absurd (omega (arith, few, ap length (sym are ∙ named.words)))

  by_words : (words : List (List ℕ)) → words_of line ≡ words → Decided (IsClientLine version line)
  by_words [] are = inr (short [] are (omega arith))
  by_words (key ∷ []) are = inr (short (key ∷ []) are (omega arith))
  by_words (key ∷ types ∷ []) are = inr (short (key ∷ types ∷ []) are (omega arith))
  by_words (key ∷ types ∷ fields ∷ words) are = elim (mark_decided words) [
    | inr none ↦ inr (λ client named. none named.carry (ap past_three (sym are ∙ named.words)))
    | inl mark ↦
        let whole : words_of line ≡ key ∷ types ∷ fields ∷ carry_words mark.0 = are ∙ ap (λ rest. key ∷ types ∷ fields ∷ rest) mark.1 in
        elim (client_decided version key types fields mark.0) [
          | inl found ↦ inl (found.0, named_by_words version line key types fields mark.0 whole found.0 found.1)
          | inr none ↦ inr (λ client named. none client (has_words version line key types fields mark.0 whole client named))
        ]
  ]

  pub client_line_decided : Decided (IsClientLine version line)
  client_line_decided = by_words (words_of line) refl

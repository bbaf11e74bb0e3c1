-- Lines that name clients.
use Rattle.std.proofs.Common.{◌≡◌, ℕ, List, [], ◌∷◌, refl, sym, ap, ◌∙◌, subst, Result, Ok, Err, Option, Some, None, Bool, true, false}
use Rattle.std.specs.Prelude.{IsTrue, IfOk, IfSome, IfNone}
use Rattle.std.specs.Result.{result_ok}
use Rattle.std.proofs.lemmas.Option.{same_Some}
use Rattle.cost_num.specs.declared.weights.WeightFault.{WeightFault}
use Rattle.client_files.specs.declared.client.Client.{Client}
use Rattle.client_files.specs.declared.heading.Version.{Version}
use Rattle.std.specs.List.{slice_split}
use Rattle.client_files.specs.Lines.{is_space, words_of}
use Rattle.client_files.specs.ClientLines.{carry_words, IsClient, IsClientLine}

-- what is spelled and read is one number
pub same_read : (read : Result ℕ WeightFault) (spelled number : ℕ) → Ok spelled ≡ read → result_ok read ≡ Some number → spelled ≡ number
same_read read spelled number e is = same_Some spelled number (ap result_ok e ∙ is)

-- and what isn't read isn't spelled
pub not_read : (read : Result ℕ WeightFault) (spelled : ℕ) → Ok spelled ≡ read → result_ok read ≡ None → ⊥
not_read read spelled e is = let none = ap result_ok e ∙ is in cc

pub true_not : IsTrue false → ⊥
true_not h = cc

-- the words of a line in one way

abbrev first_of : List (List ℕ) → List ℕ
first_of [] = []
first_of (word ∷ words) = word

abbrev behind : List (List ℕ) → List (List ℕ)
behind [] = []
behind (word ∷ words) = words

same_mark : (one other : Bool) → carry_words one ≡ carry_words other → one ≡ other
same_mark true true e = refl
same_mark true false e = cc
same_mark false true e = cc
same_mark false false e = refl

pub record SameWords (key types fields : List ℕ) (carry : Bool) (key' types' fields' : List ℕ) (carry' : Bool) : Type 0 where
  pub key_is : key ≡ key'
  pub types_are : types ≡ types'
  pub fields_are : fields ≡ fields'
  pub carry_is : carry ≡ carry'

pub same_words : (key types fields : List ℕ) (carry : Bool) (key' types' fields' : List ℕ) (carry' : Bool) → ◌≡◌ {A = List (List ℕ)} (key ∷ types ∷ fields ∷ carry_words carry) (key' ∷ types' ∷ fields' ∷ carry_words carry')
    → SameWords key types fields carry key' types' fields' carry'
same_words key types fields carry key' types' fields' carry' e = record {
  key_is = ap first_of e;
  types_are = ap (λ words. first_of (behind words)) e;
  fields_are = ap (λ words. first_of (behind (behind words))) e;
  carry_is = same_mark carry carry' (ap (λ words. behind (behind (behind words))) e);
}

module _ (version : Version) (line key types fields : List ℕ) (carry : Bool) (are : words_of line ≡ key ∷ types ∷ fields ∷ carry_words carry) where
  -- a client with the words of the line is named by it
  pub named_by_words : (client : Client) → IsClient version key types fields carry client → IsClientLine version line client
  named_by_words client is = record { key = key; types = types; fields = fields; carry = carry; words = are; client_is = is }

  -- and one that it names has its words
  pub has_words : (client : Client) → IsClientLine version line client → IsClient version key types fields carry client
  has_words client named =
      let same = same_words named.key named.types named.fields named.carry key types fields carry (sym named.words ∙ are) in
      let a = subst (λ k. IsClient version k named.types named.fields named.carry client) same.key_is named.client_is in
      let b = subst (λ t. IsClient version key t named.fields named.carry client) same.types_are a in
      let d = subst (λ f. IsClient version key types f named.carry client) same.fields_are b in
      subst (λ m. IsClient version key types fields m client) same.carry_is d

  pub finds : {E : Type 0} (found : Result (Option Client) E) → IfOk found (λ some. IfSome some (λ client. IsClient version key types fields carry client)) → IfOk found (λ some. IfSome some (λ client. IsClientLine version line client))
  finds (Ok (Some client)) is = named_by_words client is
  finds (Ok None) is = is
  finds (Err e) is = is

  pub finds_none : {E : Type 0} (found : Result (Option Client) E) → IfOk found (λ some. IfNone some ((client : Client) → ¬ (IsClient version key types fields carry client)))
      → IfOk found (λ some. IfNone some ((client : Client) → ¬ (IsClientLine version line client)))
  finds_none (Ok (Some client)) is = is
  finds_none (Ok None) is = λ client named. is client (has_words client named)
  finds_none (Err e) is = is

-- the words of a line that were cut
pub cut_words : (line : List ℕ) (words : List (List ℕ)) → words ≡ slice_split is_space line → words ≡ words_of line
unfolding words_of
cut_words line words e = e

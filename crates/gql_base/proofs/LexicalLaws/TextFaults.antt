-- Want of memory is no fault of a text.
use Rattle.std.proofs.Common.{ℕ, ◌≡◌, inl, inr, List, drop, refl, sym, subst, Bool}
use Rattle.gql_base.specs.declared.lexical.lexing.LexFault.{LexFault}
use Rattle.gql_base.specs.declared.lexical.lexing.LexFault.TheVariants.{BadChar, BadNumber, OpenText, BadEscape, FloatValue, Memory}
use Rattle.gql_base.specs.lexical.Faults.{BeginsWithFault, moved, HasFault}
use Rattle.gql_base.proofs.LexicalLaws.ScannedClosings.{no_memory_inside}

in_front : (floats : Bool) (text : List ℕ) → BeginsWithFault floats text Memory → ⊥
in_front floats text (inl is) = is
in_front floats text (inr is) = no_memory_inside text is

not_moved : (by : ℕ) (f : LexFault) → moved by f ≡ Memory → f ≡ Memory
not_moved by (BadChar at) e = cc
not_moved by (BadNumber at) e = cc
not_moved by (OpenText at) e = cc
not_moved by (BadEscape at) e = cc
not_moved by (FloatValue at) e = cc
not_moved by Memory e = refl

pub no_memory_fault : (floats : Bool) (text : List ℕ) → HasFault floats text Memory → ⊥
no_memory_fault floats text bad = in_front floats (drop bad.at text) (subst (BeginsWithFault floats (drop bad.at text)) (not_moved bad.at bad.first (sym bad.told)) bad.begins)

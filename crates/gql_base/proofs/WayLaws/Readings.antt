-- What the laws of a grammar say of a call that reads it.
use Rattle.std.proofs.Common.{ℕ, ◌≡◌, Ok, refl, sym, ◌∙◌, subst}
use Rattle.gql_base.specs.declared.ways.source.Source.{Source}
use Rattle.gql_base.specs.declared.ways.source.Halt.{Halt}
use Rattle.gql_base.specs.declared.ways.source.Halt.TheVariants.{Unexpected, TooDeep, Memory}
use Rattle.gql_base.specs.ways.Symbols.{Symbols}
use Rattle.gql_base.specs.ways.Reading.{Reading, Reader, Test, unexpected, too_deep}
use Rattle.gql_base.specs.ways.Grammar.{Nested}
use Rattle.gql_base.specs.ways.FirstFaults.{level_limit}
use Rattle.gql_base.specs.ways.TextFaults.{TextFault, IsFaultFrom}
use Rattle.gql_base.specs.ways.Sources.{ahead, Halts}
use Rattle.gql_base.specs.ways.Halting.{HaltsAtFault, fault_of_halt}
use Rattle.gql_base.proofs.WayLaws.ReadingLaws.{ok_not_err}
use Rattle.gql_base.proofs.WayLaws.LevelLaws.{Family, is_unexpected, is_too_deep}

pub halts_at_fault : {A : Type 0} {S : A → Nested → Type 0} {goes : Test} {r : ℕ → Reader A} (n : ℕ) → Family S goes r → (s : Source) (from : ℕ) (halt : Halt) → Halts s halt (r n (ahead s from)) → HaltsAtFault S n s from halt
halts_at_fault n f s from (Unexpected at) e = is_unexpected n f (ahead s from) (ahead s at) e
halts_at_fault n f s from (TooDeep at) e = is_too_deep n f (ahead s from) (ahead s at) e
halts_at_fault n f s from Memory e = tt

-- a call that halted where something is read ran out of memory
pub halts_for_memory : {A : Type 0} (s : Source) (halt : Halt) (o : Reading A) (x : A × Symbols) → Halts s halt o → o ≡ Ok x → halt ≡ Memory
halts_for_memory s (Unexpected at) o x e is = absurd (ok_not_err x (unexpected, ahead s at) (sym is ∙ e))
halts_for_memory s (TooDeep at) o x e is = absurd (ok_not_err x (too_deep, ahead s at) (sym is ∙ e))
halts_for_memory s Memory o x e is = refl

-- a call that halted tells the first fault from its token on
pub fault_from : {A : Type 0} {S : A → Nested → Type 0} {goes : Test} {r : ℕ → Reader A} → Family S goes r → (s : Source) (from : ℕ) (halt : Halt) (told : TextFault) → Halts s halt (r level_limit (ahead s from)) → told ≡ fault_of_halt s halt → IsFaultFrom S s.text.now s.tokens.now from told
fault_from {S = S} fam s from (Unexpected at) told e is = subst (IsFaultFrom S s.text.now s.tokens.now from) (sym is) (at, refl, halts_at_fault level_limit fam s from (Unexpected at) e)
fault_from {S = S} fam s from (TooDeep at) told e is = subst (IsFaultFrom S s.text.now s.tokens.now from) (sym is) (at, refl, halts_at_fault level_limit fam s from (TooDeep at) e)
fault_from {S = S} fam s from Memory told e is = subst (IsFaultFrom S s.text.now s.tokens.now from) (sym is) tt

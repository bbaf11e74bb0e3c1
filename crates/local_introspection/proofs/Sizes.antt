-- An answer that is too large, by its values or by its text.
use Rattle.std.proofs.Common.{◌≡◌, ℕ, inl, inr, Option, Some, Ok, Err, sym, subst}
use Rattle.std.specs.Prelude.{Result}
use Rattle.schema_facts.specs.Facts.{FactsData}
use Rattle.meta_schema.specs.PassedOn.{AskedNodes}
use Rattle.local_introspection.specs.declared.counting.Stop.{Stop}
use Rattle.local_introspection.specs.declared.counting.Stop.TheVariants.{TooLarge, Memory}
use Rattle.local_introspection.specs.Counting.{IsCount}
use Rattle.local_introspection.specs.Measuring.{IsMeasured, TellsLength, IsSized}

module _ (f : FactsData) (nodes : AskedNodes) where
  pub too_many : (most : Option ℕ) (stop : Stop) → IsCount f nodes (Err stop) → IsSized f nodes most (Err stop)
  too_many most TooLarge many = inl many
  too_many most Memory many = tt

  pub too_long : (T : Type 0) (most : Option ℕ) (stop : Stop) → TellsLength {T = T} f nodes most (Err stop) → IsSized f nodes most (Err stop)
  too_long T most TooLarge long = inr long
  too_long T most Memory long = tt

  of_most : {T : Type 0} (most : ℕ) (result : Result T Stop) → IsMeasured f nodes most result → TellsLength f nodes (Some most) result
  of_most most (Ok done) is = is
  of_most most (Err TooLarge) is = is
  of_most most (Err Memory) is = tt

  pub tells_length : {T : Type 0} (option : Option ℕ) (most : ℕ) (result : Result T Stop) → option ≡ Some most → IsMeasured f nodes most result → TellsLength f nodes option result
  tells_length option most result some is = subst (λ o. TellsLength f nodes o result) (sym some) (of_most most result is)

-- The words of all uses of the option are those that clap gives.
use Rattle.std.proofs.Common.{◌∙◌, ap, subst, List, ℕ, [], Option, codes}
use Rattle.std.specs.Prelude.{IfOk, unwrap_or}
use Rattle.clap.specs.Matches.{found_of}
use Rattle.clap.proofs.WalkLemmas.{raw_values-rows}
use Rattle.command_words.specs.Words.{ArePassed}
use Rattle.command_words.proofs.Readings.{none_passed}
use Rattle.command_words.proofs.words.serving.passed_of.Goals as goal

pub returns-in-Some-clause-found : goal.returns-in-Some-clause-found
returns-in-Some-clause-found c =
    let given = ap (λ (o : Option (List (List ℕ))). unwrap_or o []) (c.in-Some.ensures ∙ raw_values-rows (found_of c.args.matches.now) (codes "pass")) in
    subst (λ words. IfOk c.names_of.result (λ names. ArePassed words names.items)) given c.names_of.ensures.found

pub returns-in-Some-clause-usage : goal.returns-in-Some-clause-usage
returns-in-Some-clause-usage c = λ failed names.
    let given = ap (λ (o : Option (List (List ℕ))). unwrap_or o []) (c.in-Some.ensures ∙ raw_values-rows (found_of c.args.matches.now) (codes "pass")) in
    subst (λ words. ArePassed words names → ⊥) given (c.names_of.ensures.usage failed names)

pub returns-in-None-clause-found : goal.returns-in-None-clause-found
returns-in-None-clause-found c =
    none_passed _ c.new.result.items (ap (λ (o : Option (List (List ℕ))). unwrap_or o []) (c.in-None.ensures ∙ raw_values-rows (found_of c.args.matches.now) (codes "pass"))) c.new.ensures.items

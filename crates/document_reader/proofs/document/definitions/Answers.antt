use Rattle.std.proofs.Common.{◌≡◌, arith, sym, ap, ◌∙◌, length, map, Ok, [], ◌∷◌, ◌++◌}
use Rattle.std.proofs.lemmas.Result.{err_from_is_err_and}
use Rattle.gql_base.specs.ways.FirstFaults.{level_limit}
use Rattle.gql_base.specs.ways.Sources.{ahead}
use Rattle.gql_base.proofs.WayLaws.Loops.{loop_ends, loop_halts, loop_goes_on}
use Rattle.document_reader.specs.Trees.{definition_tree}
use Rattle.document_reader.proofs.DefinitionSteps.{definitions_repeat}
use Rattle.document_reader.proofs.DocumentSteps.{stands, stands_alone, stands_after, document_begins, document_halts}
use Rattle.document_reader.proofs.document.definitions.Goals as goal

pub returns-in_err-first-clause-read : goal.returns-in_err-first-clause-read
returns-in_err-first-clause-read c =
    let p = err_from_is_err_and c.from_residual.result c.from_residual.ensures.1 in
    rw (p.1, p.2) (document_halts c.args.source.now c.in_err-first.field-0.0 c.in_err-first.ensures.read)

pub rest-init : goal.rest-init
rest-init c =
    let pushed : c.push.new.self.items ≡ c.in_ok-first.first ∷ [] = c.in_ok-push.ensures.items ∙ ap (λ l. l ++ (c.in_ok-first.first ∷ [])) c.new-definitions.ensures.items in
    record {
      whole = document_begins c.args.source.now c.push.new.self.items c.in_ok-first.first c.in_ok-first.end c.in_ok-first.ensures.read pushed;
      places = stands_alone c.args.source.now.text.now c.args.source.now.tokens.now 0 c.in_ok-first.end c.in_ok-first.first c.push.new.self.items
          (stands c.args.source.now 0 c.in_ok-first.end c.in_ok-first.first c.in_ok-first.ensures.read c.in_ok-first.ensures.within.0 c.in_ok-first.ensures.within.1 c.in_ok-first.ensures.place) pushed;
      short = c.in_ok-first.ensures.within.1;
    }

pub returns-in_err-definition-clause-read : goal.returns-in_err-definition-clause-read
returns-in_err-definition-clause-read c =
    let p = err_from_is_err_and c.from_residual-in_err-definition.result c.from_residual-in_err-definition.ensures.1 in
    rw (p.1, p.2) (loop_halts (definitions_repeat level_limit) c.args.source.now c.in_err-definition.field-0.0 (map definition_tree c.rest.definitions.items) _ _ c.rest.invariant.whole (sym c.is_there.ensures.there ∙ c.rest-test.true) c.in_err-definition.ensures.read)

pub rest-preserved : goal.rest-preserved
rest-preserved c = record {
  whole = loop_goes_on definition_tree (definitions_repeat level_limit) c.rest.definitions.items c.push-in-rest.new.self.items c.in_ok-definition.definition _ _ _ c.rest.invariant.whole (sym c.is_there.ensures.there ∙ c.rest-test.true) c.in_ok-definition.ensures.read c.in_ok-push-2.ensures.items;
  places = stands_after c.args.source.now.text.now c.args.source.now.tokens.now 0 c.rest.at c.in_ok-definition.end c.rest.definitions.items c.push-in-rest.new.self.items c.in_ok-definition.definition c.rest.invariant.places
      (stands c.args.source.now c.rest.at c.in_ok-definition.end c.in_ok-definition.definition c.in_ok-definition.ensures.read c.in_ok-definition.ensures.within.0 c.in_ok-definition.ensures.within.1 c.in_ok-definition.ensures.place) c.in_ok-push-2.ensures.items;
  short = c.in_ok-definition.ensures.within.1;
}

pub returns-clause-read : goal.returns-clause-read
returns-clause-read c =
    let at_end : c.rest.at ≡ length c.args.source.now.tokens.now = omega (arith, c.rest.invariant.short, c.is_there.ensures.end c.rest-test.false) in
    loop_ends (definitions_repeat level_limit) (map definition_tree c.rest.definitions.items) _ _ c.rest.invariant.whole (sym c.is_there.ensures.there ∙ c.rest-test.false)
    ∙ ap (λ n. Ok (map definition_tree c.rest.definitions.items, ahead c.args.source.now n)) at_end

use Rattle.std.proofs.Common.{◌+◌, ◌∷◌, false, sym, ap, ap₂, ◌∙◌, drop, not, ◌||◌}
use Rattle.std.specs.Prelude.{is_some, Some}
use Rattle.std.proofs.lemmas.List.{drop_more}
use Rattle.std.proofs.lemmas.Map.Text.{btree_map_updates_str}
use Rattle.gql_base.specs.names.Indexes.{at_name}
use Rattle.gql_base.proofs.NameLaws.RepeatedLaws.{sees}
use Rattle.input_values.specs.coercion.Forms.{fields_of}
use Rattle.input_values.specs.coercion.Objects.{wrong_name}
use Rattle.input_values.specs.coercion.Sizes.{names_written}
use Rattle.input_values.proofs.CoercionSteps.Names.{here_wrong, not_wrong}
use Rattle.input_values.proofs.coercion.literals.wrong_name.Goals as goal

pub returns-then-known-again : goal.returns-then-known-again
returns-then-known-again g c =
    let e = c.in_ok-before.ensures in
    let fields = fields_of (g.T.InputTypes.forms c.args.types.now c.args.of.number) in
    let seen = c.loop-at.invariant.seen in
    let name = c.name-name.result.now in
    let rest = names_written (drop (c.loop-at.at + 1) c.args.fields.now) in
    let item = drop_more c.args.fields.now c.loop-at.at c.index-fields-at.result c.loop-at-test.true in
    here_wrong fields seen name rest _
    (ap₂ (λ k a. not k || a) (sym c.has_field-known.ensures) (sym (c.loop-at.invariant.knows name) ∙ (ap is_some (sym e.old) ∙ sym c.is_some-again.ensures)) ∙ c.if-known-again.true)
    (ap (λ n. wrong_name false fields seen (n ∷ rest)) (c.name-name.ensures ∙ ap (λ f. f.name.text) c.index-fields-at.is) ∙ (ap (λ l. wrong_name false fields seen (names_written l)) (sym item) ∙ c.loop-at.invariant.same))

pub loop-at-preserved : goal.loop-at-preserved
loop-at-preserved g c =
    let e = c.in_ok-before.ensures in
    let fields = fields_of (g.T.InputTypes.forms c.args.types.now c.args.of.number) in
    let seen = c.loop-at.invariant.seen in
    let name = c.name-name.result.now in
    let rest = names_written (drop (c.loop-at.at + 1) c.args.fields.now) in
    let item = drop_more c.args.fields.now c.loop-at.at c.index-fields-at.result c.loop-at-test.true in
    record {
      seen = name ∷ seen;
      knows = sees (at_name c.loop-at.seen) (at_name c.insert.new.self) name c.loop-at.at seen (btree_map_updates_str name c.loop-at.seen c.insert.new.self (Some c.loop-at.at) e.updates) c.loop-at.invariant.knows;
      same = not_wrong fields seen name rest _
          (ap₂ (λ k a. not k || a) (sym c.has_field-known.ensures) (sym (c.loop-at.invariant.knows name) ∙ (ap is_some (sym e.old) ∙ sym c.is_some-again.ensures)) ∙ c.if-known-again.false)
          (ap (λ n. wrong_name false fields seen (n ∷ rest)) (c.name-name.ensures ∙ ap (λ f. f.name.text) c.index-fields-at.is) ∙ (ap (λ l. wrong_name false fields seen (names_written l)) (sym item) ∙ c.loop-at.invariant.same));
    }

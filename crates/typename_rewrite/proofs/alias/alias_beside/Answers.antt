use Rattle.std.proofs.Common.{map, string_bytes, sym, ap, ◌∙◌, subst}
use Rattle.gql_base.specs.names.Names.{has_name}
use Rattle.typename_rewrite.specs.AddedNames.{IsAlias}
use Rattle.typename_rewrite.specs.Views.{word_text}
use Rattle.typename_rewrite.proofs.AliasSteps.{IsTried, taken_among, found_free, one_more_tried, longer_is_nearer}
use Rattle.typename_rewrite.proofs.alias.alias_beside.Goals as goal

pub longer-smaller : goal.longer-smaller
longer-smaller c = longer_is_nearer (map word_text c.args.taken.now) (string_bytes c.longer.alias) (string_bytes c.push_str.new.self)
    (sym (taken_among word_text c.args.taken.now (string_bytes c.longer.alias)) ∙ (ap (has_name word_text c.args.taken.now) (sym c.as_str.ensures.value) ∙ (sym c.is_taken.ensures ∙ c.longer-test.true)))
    c.in_ok-push_str.ensures.bytes

pub longer-preserved : goal.longer-preserved
longer-preserved c = subst (IsTried (map word_text c.args.taken.now)) (sym c.in_ok-push_str.ensures.bytes) (one_more_tried (map word_text c.args.taken.now) (string_bytes c.longer.alias) c.longer.invariant
    (sym (taken_among word_text c.args.taken.now (string_bytes c.longer.alias)) ∙ (ap (has_name word_text c.args.taken.now) (sym c.as_str.ensures.value) ∙ (sym c.is_taken.ensures ∙ c.longer-test.true))))

pub returns : goal.returns
returns c = subst (IsAlias (map word_text c.args.taken.now)) (sym c.from.ensures) (found_free (map word_text c.args.taken.now) (string_bytes c.longer.alias) c.longer.invariant
    (sym (taken_among word_text c.args.taken.now (string_bytes c.longer.alias)) ∙ (ap (has_name word_text c.args.taken.now) (sym c.as_str.ensures.value) ∙ (sym c.is_taken.ensures ∙ c.longer-test.false))))

-- No symbols are written as two schema texts, and no text is two schema texts.
use Rattle.std.proofs.Common.{ℕ, ◌≡◌, Bool, List, ◌∙◌, codes, sym, ap, subst, append-nil}
use Rattle.gql_base.specs.ways.Symbols.{symbols_from}
use Rattle.gql_base.specs.ways.Grammar.{Nested, plain}
use Rattle.gql_base.specs.ways.TextFaults.{HasTree}
use Rattle.gql_base.proofs.LexicalLaws.DirectiveUses.{used_once}
use Rattle.gql_base.proofs.LexicalLaws.OneDivision.{lexes_once}
use Rattle.gql_base.proofs.WayLaws.OneTextFault.{one_tree}
use Rattle.schema_reader.specs.Schemas.{DefinitionTree, IsSchema}
use Rattle.schema_reader.specs.SchemaAnswers.{HasSchema}
use Rattle.schema_reader.proofs.DefinitionLaws.{definitions_family}
use Rattle.schema_reader.proofs.SchemaSteps.{are_definitions}

pub one_schema : (trees others : List DefinitionTree) (ws vs : Nested) → IsSchema trees ws → IsSchema others vs → plain ws ≡ plain vs → trees ≡ others
one_schema trees others ws vs is are same = one_tree definitions_family trees others ws vs (are_definitions trees ws is) (are_definitions others vs are) same

-- floats may stand in both or in neither
one_tree_of_both : (floats : Bool) (text : List ℕ) (trees others : List DefinitionTree) → HasTree floats IsSchema text trees → HasTree floats IsSchema text others → trees ≡ others
one_tree_of_both floats text trees others is it =
    let one = is.2 in let two = it.2 in
    one_schema trees others one.front two.front one.written two.written
    (sym (append-nil (plain one.front)) ∙ (sym one.cut ∙ (ap (λ ts. symbols_from text ts 0) (lexes_once floats text is.0 it.0 is.1 it.1) ∙ (two.cut ∙ append-nil (plain two.front)))))

pub one_schema_of : (text : List ℕ) (trees others : List DefinitionTree) → HasSchema text trees → HasSchema text others → trees ≡ others
one_schema_of text trees others is it =
    one_tree_of_both is.0 text trees others is.2 (subst (λ b. HasTree b IsSchema text others) (used_once (codes "floats") text it.0 is.0 it.1 is.1) it.2)

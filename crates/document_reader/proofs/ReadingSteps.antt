-- What reading a set or a selection is, by its first symbol; what can be repeated; and what selections of the program stand for.
use Rattle.std.proofs.Common.{ℕ, zero, suc, ◌-◌, ◌≡◌, false, map, Vec, Global, Option, refl, sym, ap, arith}
use Rattle.gql_base.specs.declared.lexical.token.TokenKind.TheVariants.{CloseBrace, OpenBrace, Spread}
use Rattle.gql_base.specs.declared.parts.trees.Name.{Name}
use Rattle.gql_base.specs.declared.parts.trees.Directive.{Directive}
use Rattle.gql_base.specs.ways.Symbols.{Symbols}
use Rattle.gql_base.specs.ways.Reading.{next, single, pair, image, takes, exact, level, second, up_to}
use Rattle.gql_base.proofs.WayLaws.RepeatingLaws.{Repeats, repeats}
use Rattle.gql_base.specs.parts.Trees.{directive_tree}
use Rattle.document_reader.specs.declared.trees.Selection.{Selection}
use Rattle.document_reader.specs.declared.trees.Field.{Field}
use Rattle.document_reader.specs.declared.trees.Selection.TheViews.{Field as FieldSelection, Inline as InlineSelection}
use Rattle.document_reader.specs.declared.trees.Selection.TheOpen.{Selection-F}
use Rattle.document_reader.specs.declared.trees.Selection.TheFolds.{fold-roll-Selection}
use Rattle.document_reader.specs.Documents.{SelectionTree, inline_fragment}
use Rattle.document_reader.specs.DocumentReading.{field_with, selection_with, set_at, opened_set_at, in_set}
use Rattle.document_reader.specs.Trees.{selection_tree, field_tree, selection_step, field_step, maybe_identifier, set_tree}
use Rattle.document_reader.proofs.SelectionLaws.{heads_selection, selection_law, set_law}

pub selections_repeat : (n : ℕ) → Repeats (up_to CloseBrace) (selection_with n (set_at n))
selections_repeat n = repeats (up_to CloseBrace) (selection_law n n 0 n (set_at n) (set_at n) (omega arith) (omega arith) (set_law n n 0 n (omega arith) (omega arith))) (heads_selection 0 refl (λ b at. refl)) refl

pred : (n : ℕ) → suc n - 1 ≡ n
pred n = omega arith

pub set_is_opened : (n : ℕ) (ws : Symbols) → set_at n ws ≡ opened_set_at n ws
unfolding set_at opened_set_at level
set_is_opened zero ws = refl
set_is_opened (suc n) ws = sym (ap (λ m. image second (pair (single (exact OpenBrace)) (in_set (selection_with m (set_at m)))) ws) (pred n))

pub selection_is_field : (n : ℕ) (ws : Symbols) → takes (exact Spread) (next ws) ≡ false → selection_with n (set_at n) ws ≡ field_with n (set_at n) ws
selection_is_field n ws f = rw f refl

-- trees

pub tree_of_field : (f : Field) → selection_tree (FieldSelection f) ≡ field_tree f
unfolding selection_tree field_tree Rattle.document_reader.specs.declared.trees.Selection.TheViews.roll-Selection denote.Hole.Carrier.roll
tree_of_field f = fold-roll-Selection SelectionTree SelectionTree selection_step field_step (Selection-F.Field f)

pub tree_of_inline : (on : Option Name) (ds : Vec Directive Global) (ss : Vec Selection Global) → selection_tree (InlineSelection on ds ss) ≡ inline_fragment (maybe_identifier on) (map directive_tree ds.items) (set_tree ss.items)
unfolding selection_tree Rattle.document_reader.specs.declared.trees.Selection.TheViews.roll-Selection denote.Hole.Carrier.roll
tree_of_inline on ds ss = fold-roll-Selection SelectionTree SelectionTree selection_step field_step (Selection-F.Inline on ds ss)

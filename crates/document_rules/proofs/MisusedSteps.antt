-- Directives that are used wrongly, one after another.
use Rattle.std.proofs.Common.{◌≡◌, ◌+◌, ◌<◌, ◌≤◌, ℕ, Bool, true, false, List, [], ◌∷◌, ◌++◌, map, take, drop, length, get_or, Option, None, Some, sym, ap, ◌∙◌, if◌then◌else◌}
use Rattle.std.proofs.lemmas.List.{drop_all, take_more, map_push}
use Rattle.gql_base.proofs.Lists.{at_front}
use Rattle.gql_base.specs.declared.parts.trees.Directive.{Directive}
use Rattle.gql_base.specs.parts.Trees.{directive_tree}
use Rattle.document_rules.specs.Rules.{is_misused, first_misused}

misused_at : (ds : List Directive) (at : ℕ) (d : Directive) (b : Bool) → at < length ds → d ≡ get_or ds at d → b ≡ is_misused (map directive_tree (take at ds)) (directive_tree d)
    → first_misused (map directive_tree (take at ds)) (map directive_tree (drop at ds)) ≡ if b then Some d.name.at else first_misused (map directive_tree (take at ds) ++ (directive_tree d ∷ [])) (map directive_tree (drop (at + 1) ds))
unfolding first_misused
misused_at ds at d b within is same =
    ap (λ l. first_misused (map directive_tree (take at ds)) (map directive_tree l)) (at_front ds at d within is)
    ∙ ap (λ (c : Bool). if c then Some d.name.at else first_misused (map directive_tree (take at ds) ++ (directive_tree d ∷ [])) (map directive_tree (drop (at + 1) ds))) (sym same)

pub misused_here : (ds : List Directive) (at : ℕ) (d : Directive) (b : Bool) (whole : Option ℕ) → at < length ds → d ≡ get_or ds at d → b ≡ is_misused (map directive_tree (take at ds)) (directive_tree d) → b ≡ true
    → first_misused (map directive_tree (take at ds)) (map directive_tree (drop at ds)) ≡ whole → Some d.name.at ≡ whole
misused_here ds at d b whole within is same wrong before =
    sym (ap (λ (c : Bool). if c then Some d.name.at else first_misused (map directive_tree (take at ds) ++ (directive_tree d ∷ [])) (map directive_tree (drop (at + 1) ds))) wrong) ∙ (sym (misused_at ds at d b within is same) ∙ before)

pub misused_later : (ds : List Directive) (at : ℕ) (d : Directive) (b : Bool) (whole : Option ℕ) → at < length ds → d ≡ get_or ds at d → b ≡ is_misused (map directive_tree (take at ds)) (directive_tree d) → b ≡ false
    → first_misused (map directive_tree (take at ds)) (map directive_tree (drop at ds)) ≡ whole → first_misused (map directive_tree (take (at + 1) ds)) (map directive_tree (drop (at + 1) ds)) ≡ whole
misused_later ds at d b whole within is same right before =
    ap (λ l. first_misused l (map directive_tree (drop (at + 1) ds))) (ap (map directive_tree) (front ds at d within is) ∙ map_push directive_tree (take at ds) d)
    ∙ (sym (ap (λ (c : Bool). if c then Some d.name.at else first_misused (map directive_tree (take at ds) ++ (directive_tree d ∷ [])) (map directive_tree (drop (at + 1) ds))) right) ∙ (sym (misused_at ds at d b within is same) ∙ before))
  where
    front : (xs : List Directive) (n : ℕ) (x : Directive) → n < length xs → x ≡ get_or xs n x → take (n + 1) xs ≡ take n xs ++ (x ∷ [])
    front xs n x h e = take_more xs n x h ∙ ap (λ y. take n xs ++ (y ∷ [])) (sym e)

pub none_misused : (ds : List Directive) (at : ℕ) (whole : Option ℕ) → length ds ≤ at → first_misused (map directive_tree (take at ds)) (map directive_tree (drop at ds)) ≡ whole → None ≡ whole
unfolding first_misused
none_misused ds at whole past before = sym (ap (λ l. first_misused (map directive_tree (take at ds)) (map directive_tree l)) (drop_all at ds past)) ∙ before

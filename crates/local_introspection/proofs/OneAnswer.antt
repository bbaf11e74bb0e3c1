-- There is one tree whose every entry has what the table says.
use Rattle.std.proofs.Common.{◌≡◌, List, [], ◌∷◌, Option, Some, None, refl, sym, ap, ap₂, ◌∙◌}
use Rattle.serde_json.specs.Data.{Data}
use Rattle.response_model.specs.Response.{Tree, null, leaf, list_of, object, Elements, no_element, element, Entries, no_entry, entry}
use Rattle.schema_facts.specs.Facts.{FactsData}
use Rattle.meta_schema.specs.PassedOn.{AskedNodes, nothing_asked, asked_then}
use Rattle.schema_facts.specs.Things.{ThingData, HeldData, nothing, one, many, leaf_of}
use Rattle.meta_schema.specs.MetaTypes.{number_of}
use Rattle.local_introspection.specs.Answers.{given_by, Gives, GivesEach, HasEntries, entries_of, leaf_or, tree_of_held, elements_for}

module _ (f : FactsData) where
  -- one at most
  mutual
    unfolding entries_of

    pub one_tree : (h : HeldData) (nodes : AskedNodes) (t : Tree) → Gives f h nodes t → t ≡ tree_of_held (entries_of f nodes) h
    one_tree nothing nodes null is = refl
    one_tree nothing nodes (leaf json) is = absurd is
    one_tree nothing nodes (list_of ts) is = absurd is
    one_tree nothing nodes (object T es) is = absurd is
    one_tree (one x) nodes null is = absurd is
    one_tree (one x) nodes (leaf json) is = ap (λ is_given. leaf_or is_given (object (number_of x) (entries_of f nodes x))) (sym is)
    one_tree (one x) nodes (list_of ts) is = absurd is
    one_tree (one x) nodes (object T es) (none, number, has) =
        ap₂ object number (one_object x nodes es has) ∙ ap (λ is_given. leaf_or is_given (object (number_of x) (entries_of f nodes x))) (sym none)
    one_tree (many xs) nodes null is = absurd is
    one_tree (many xs) nodes (leaf json) is = absurd is
    one_tree (many xs) nodes (list_of ts) is = ap list_of (one_list xs nodes ts is)
    one_tree (many xs) nodes (object T es) is = absurd is

    one_list : (xs : List ThingData) (nodes : AskedNodes) (ts : Elements) → GivesEach f xs nodes ts → ts ≡ elements_for (entries_of f nodes) xs
    one_list [] nodes no_element is = refl
    one_list [] nodes (element t ts) is = absurd is
    one_list (x ∷ xs) nodes no_element is = absurd is
    one_list (x ∷ xs) nodes (element t ts) (first, rest) = ap₂ element (one_tree (one x) nodes t first) (one_list xs nodes ts rest)

    one_object : (x : ThingData) (nodes : AskedNodes) (es : Entries) → HasEntries f x nodes es → es ≡ entries_of f nodes x
    one_object x nothing_asked no_entry is = refl
    one_object x nothing_asked (entry k t es) is = absurd is
    one_object x (asked_then key name argument below others) no_entry is = absurd is
    one_object x (asked_then key name argument below others) (entry k t es) (same, there, rest) =
        ap (λ j. entry j t es) (sym same) ∙ ap₂ (entry key) (one_tree (given_by f x name argument) below t there) (one_object x others es rest)

  -- and there is one
  thing_is_given : (nodes : AskedNodes) (x : ThingData) (leaf_is : Option Data) → leaf_of x ≡ leaf_is → HasEntries f x nodes (entries_of f nodes x) → Gives f (one x) nodes (leaf_or leaf_is (object (number_of x) (entries_of f nodes x)))
  thing_is_given nodes x (Some json) is has = is
  thing_is_given nodes x None is has = (is, refl, has)

  elements_are_given : (nodes : AskedNodes) (each : (x : ThingData) → HasEntries f x nodes (entries_of f nodes x)) (xs : List ThingData) → GivesEach f xs nodes (elements_for (entries_of f nodes) xs)
  elements_are_given nodes each [] = tt
  elements_are_given nodes each (x ∷ xs) = (thing_is_given nodes x (leaf_of x) refl (each x), elements_are_given nodes each xs)

  pub is_given : (nodes : AskedNodes) (each : (x : ThingData) → HasEntries f x nodes (entries_of f nodes x)) (h : HeldData) → Gives f h nodes (tree_of_held (entries_of f nodes) h)
  is_given nodes each nothing = tt
  is_given nodes each (one x) = thing_is_given nodes x (leaf_of x) refl (each x)
  is_given nodes each (many xs) = elements_are_given nodes each xs

  pub entries_are_given : (nodes : AskedNodes) (x : ThingData) → HasEntries f x nodes (entries_of f nodes x)
  unfolding entries_of
  entries_are_given nothing_asked x = tt
  entries_are_given (asked_then key name argument below others) x = (refl, is_given below (entries_are_given below) (given_by f x name argument), entries_are_given others x)

use denote.Shadow.{shadow}
use denote.Text.{Utf8}
use Rattle.std.proofs.Common.{◌≡◌, ◌++◌, [], drop, map, string_bytes}
use Rattle.response_model.specs.ResponseText.{elements_text, entries_text}
use Rattle.plan_table.specs.Trees.{tree_of, keyed_tree, elements_from, entries_from}
use Rattle.response_model.specs.WrittenJson.{AreFloatless, HaveFloatless}
use Rattle.plan_table.proofs.texts.+texts.Given as goal

-- What was written, and the text of what is left, are the whole.
abbrev pub invariant-write_items-items : goal.invariant-write_items-items
invariant-write_items-items l = shadow (Utf8 l.front) × (AreFloatless (elements_from (map tree_of l.items))
    → AreFloatless (elements_from (map tree_of (drop l.item-index l.items))) × (string_bytes l.into ++ elements_text l.front (elements_from (map tree_of (drop l.item-index l.items))) ≡ string_bytes l.initial.into ++ elements_text [] (elements_from (map tree_of l.items))))

abbrev pub invariant-write_entries-entries : goal.invariant-write_entries-entries
invariant-write_entries-entries l = shadow (Utf8 l.front) × (HaveFloatless (entries_from (map keyed_tree l.entries))
    → HaveFloatless (entries_from (map keyed_tree (drop l.entry-index l.entries))) × (string_bytes l.into ++ entries_text l.front (entries_from (map keyed_tree (drop l.entry-index l.entries))) ≡ string_bytes l.initial.into ++ entries_text [] (entries_from (map keyed_tree l.entries))))

-- JSON as it comes from a reader.
use Rattle.std.specs.Prelude.{◌≡◌, ◌<◌, ℕ, ◌^◌, pos, negsuc, List}
use Rattle.std.specs.Ordering.{nat_cmp}
use Rattle.std.specs.declared.cmp.Ordering.TheVariants.{Less}
use Rattle.std.specs.Cmp.Lexicographic.{slice_cmp}
use Rattle.serde_json.specs.Data.{Num, unsigned, negative, float, Data, null, boolean, number, string, array, object, Items, no_items, item, Members, no_members, member}

-- An integer has 64 bits, and is below 0 where it is a negative one.
abbrev pub IsOf64Bits : Num → Type 0
IsOf64Bits (unsigned n) = n < 2 ^ 64
IsOf64Bits (negative (pos n)) = ⊥
IsOf64Bits (negative (negsuc n)) = n < 2 ^ 63
IsOf64Bits (float x) = Unit {0}

-- The key comes before those of the members, byte by byte.
abbrev pub ComesBefore : List ℕ → Members → Type 0
ComesBefore key no_members = Unit {0}
ComesBefore key (member other json others) = (slice_cmp nat_cmp key other ≡ Less) × ComesBefore key others

-- Its integers have 64 bits, and in each of its objects the keys ascend.
abbrev mutual
  pub IsAsRead : Data → Type 0
  IsAsRead null = Unit {0}
  IsAsRead (boolean b) = Unit {0}
  IsAsRead (number n) = IsOf64Bits n
  IsAsRead (string s) = Unit {0}
  IsAsRead (array items) = ItemsAreAsRead items
  IsAsRead (object members) = MembersAreAsRead members

  pub ItemsAreAsRead : Items → Type 0
  ItemsAreAsRead no_items = Unit {0}
  ItemsAreAsRead (item json others) = IsAsRead json × ItemsAreAsRead others

  pub MembersAreAsRead : Members → Type 0
  MembersAreAsRead no_members = Unit {0}
  MembersAreAsRead (member key json others) = ComesBefore key others × IsAsRead json × MembersAreAsRead others

-- The errors of a response, as the GraphQL specification (October 2021, 7.1.2) has them: their messages and paths, without what else they hold.
use Rattle.std.specs.Prelude.{ℕ, List, [], ◌∷◌, Bool, true, false, Option, Some, None, option_map, option_and_then, codes}
use Rattle.serde_json.specs.Data.{Data, null, boolean, number, string, array, object, unsigned, negative, float, Items, no_items, item}
use Rattle.serde_json.specs.Find.{get, as_str}

-- A segment of an error's path: a response key, or an item of a list by its number, from 0.
pub data PathSegment : Type 0 where
  key_segment : (name : List ℕ) → PathSegment
  index_segment : (number : ℕ) → PathSegment

-- An error: its message and, where it has one, its path.
pub record ResponseError : Type 0 where
  pub message : List ℕ
  pub path : Option (List PathSegment)

-- An error without a path.
abbrev pub pathless : List ℕ → ResponseError
pathless message = record { message = message; path = None }

-- An element before others, where both are read.
abbrev pub read_then : {A : Type 0} → Option A → Option (List A) → Option (List A)
read_then None others = None
read_then (Some x) None = None
read_then (Some x) (Some xs) = Some (x ∷ xs)

-- A string is a response key, and a whole number of at least 0 is an item's number.
abbrev pub segment_of : Data → Option PathSegment
segment_of null = None
segment_of (boolean b) = None
segment_of (number (unsigned n)) = Some (index_segment n)
segment_of (number (negative z)) = None
segment_of (number (float x)) = None
segment_of (string s) = Some (key_segment s)
segment_of (array ds) = None
segment_of (object ms) = None

abbrev pub segments_of : Items → Option (List PathSegment)
segments_of no_items = Some []
segments_of (item d ds) = read_then (segment_of d) (segments_of ds)

-- A path is absent, null, or a list of segments.
abbrev pub path_of : Option Data → Option (Option (List PathSegment))
path_of None = Some None
path_of (Some null) = Some None
path_of (Some (boolean b)) = None
path_of (Some (number n)) = None
path_of (Some (string s)) = None
path_of (Some (array ds)) = option_map Some (segments_of ds)
path_of (Some (object ms)) = None

-- An error is an object with a message, which is a string, and a path that is none or well formed. Its further members are left out.
abbrev pub error_from : Option (List ℕ) → Option (Option (List PathSegment)) → Option ResponseError
error_from None path = None
error_from (Some message) None = None
error_from (Some message) (Some path) = Some (record { message = message; path = path })

abbrev pub error_of : Data → Option ResponseError
error_of d = error_from (option_and_then as_str (get (codes "message") d)) (path_of (get (codes "path") d))

abbrev pub errors_in : Items → Option (List ResponseError)
errors_in no_items = Some []
errors_in (item d ds) = read_then (error_of d) (errors_in ds)

-- The errors by the entry `errors`: none where it is absent or null, otherwise a list of errors. Nothing where it is neither.
abbrev pub errors_of : Option Data → Option (List ResponseError)
errors_of None = Some []
errors_of (Some null) = Some []
errors_of (Some (boolean b)) = None
errors_of (Some (number n)) = None
errors_of (Some (string s)) = None
errors_of (Some (array ds)) = errors_in ds
errors_of (Some (object ms)) = None

-- Whether there are errors.
abbrev pub has_errors : List ResponseError → Bool
has_errors [] = false
has_errors (e ∷ es) = true

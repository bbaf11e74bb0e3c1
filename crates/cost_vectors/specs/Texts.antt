-- The schema and the client file, which are the same for each number of requests.
use Rattle.std.specs.Prelude.{ℕ, List, codes}

-- A list of things whose size is the argument `first`, and each thing may have a next one.
abbrev pub schema_text : List ℕ
schema_text = codes "type Query { top(first: Int = 2): [T] @listSize(slicingArguments: [\"first\"]) } type T { id: ID! next: T }"

-- One client, `c`: windows of 60 seconds, and in each an allowance of 20 for types and 20 for fields.
abbrev pub clients_text : List ℕ
clients_text = codes "clients 1\nwindow 60\nc 20.000 20.000\n"

-- What is meant where the words say nothing, and how much they may say.
use Rattle.std.specs.Prelude.{ℕ, List, codes}

-- the size of lists that declare none, and the greatest that may be given for them
abbrev pub usual_size : ℕ
usual_size = 10

abbrev pub greatest_size : ℕ
greatest_size = 1000000

-- how many requests an exercise may have
abbrev pub greatest_exercise : ℕ
greatest_exercise = 5000

-- the target of requests to the upstream
abbrev pub usual_target : List ℕ
usual_target = codes "/graphql"

-- how many workers serve, and how many may
abbrev pub usual_workers : ℕ
usual_workers = 4

abbrev pub greatest_workers : ℕ
greatest_workers = 16

-- how many connections a worker may serve, and does
abbrev pub greatest_connections : ℕ
greatest_connections = 1000000

-- how many it serves where there is to be no end
abbrev pub endless_connections : ℕ
endless_connections = 4294967295

-- how many clients may wait for their next turn
abbrev pub greatest_waiting : ℕ
greatest_waiting = 1000000

-- how many bytes may be given as the most that an answer about the schema has
abbrev pub greatest_answer : ℕ
greatest_answer = 1000000000

-- how few and how many steps may be given as the most that an operation may take
abbrev pub least_work : ℕ
least_work = 1000

abbrev pub greatest_work : ℕ
greatest_work = 1000000000

-- how many names of fields to pass on may be given
abbrev pub greatest_passed : ℕ
greatest_passed = 16

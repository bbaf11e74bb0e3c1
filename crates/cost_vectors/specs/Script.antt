-- The script: requests that are numbered from 0 and are begun in their order, and the replies to them.
use Rattle.std.specs.Prelude.{ℕ, zero, suc, ◌%◌, ◌-◌, min, List, [], ◌++◌, codes, replicate, eqb, if◌then◌else◌}
use Rattle.std.specs.Fmt.{decimal}
use Rattle.std.specs.List.{join_with_byte}

-- The size that a request asks for: 0 to 6 in turn.
abbrev pub size_of : ℕ → ℕ
size_of number = number % 7

-- How many things its reply has: 0 to 2 in turn, but no more than the request asks for.
abbrev pub length_of : ℕ → ℕ
length_of number = min (size_of number) (number % 3)

-- A request's body.
unfoldable pub request_body : ℕ → List ℕ
request_body number = codes "{\"query\":\"{ top(first: " ++ decimal (size_of number) ++ codes ") { id next { id } } }\"}"

-- The line that begins a request of the client `c`. Its number is also its moment, in seconds.
unfoldable pub begin_line : ℕ → List ℕ
begin_line number = codes "begin i" ++ decimal number ++ codes " c " ++ decimal number ++ codes " " ++ request_body number ++ codes "\n"

-- one thing of a reply
abbrev pub thing : List ℕ
thing = codes "{\"id\":\"x\",\"next\":null}"

-- so many things, with commas between them
abbrev pub things : ℕ → List ℕ
things count = join_with_byte 44 (replicate count thing)

-- The body of the reply to a request.
unfoldable pub reply_body : ℕ → List ℕ
reply_body number = codes "{\"data\":{\"top\":[" ++ things (length_of number) ++ codes "]}}"

-- The line that ends a request.
unfoldable pub end_line : ℕ → List ℕ
end_line number = codes "end i" ++ decimal number ++ codes " " ++ reply_body number ++ codes "\n"

-- Behind each odd request the one before it and itself are ended.
abbrev pub ends_behind : ℕ → List ℕ
ends_behind number = if eqb (number % 2) 1 then end_line (number - 1) ++ end_line number else []

-- the first requests, each with the ends behind it
unfoldable pub first_requests : ℕ → List ℕ
first_requests zero = []
first_requests (suc number) = first_requests number ++ begin_line number ++ ends_behind number

-- Of an odd number of requests the last one is not ended yet: its end stands last.
abbrev pub last_end : ℕ → List ℕ
last_end requests = if eqb (requests % 2) 1 then end_line (requests - 1) else []

abbrev pub script_text : ℕ → List ℕ
script_text requests = first_requests requests ++ last_end requests

-- The bytes of a reply (RFC 9112, section 6; RFC 9110, section 15 for the reasons).
use Rattle.std.specs.Prelude.{ℕ, ◌≤◌, Bool, List, [], ◌++◌, length, Option, Some, None, codes, if◌then◌else◌, nat_eq}
use Rattle.std.specs.Fmt.{decimal}
use Rattle.cost_num.specs.declared.TheConstants.{CAP}
use Rattle.cost_num.specs.declared.Cost.{Cost}
use Rattle.cost_num.specs.CostText.{cost_text}
use Rattle.http_front.specs.declared.reply.Answer.{Answer}
use Rattle.http_front.specs.declared.reply.Hint.{Hint}

-- a status with its reason; nothing for a status that no reply has
abbrev pub status_text : ℕ → List ℕ
status_text status =
    if nat_eq status 200 then codes "200 OK"
    else if nat_eq status 400 then codes "400 Bad Request"
    else if nat_eq status 401 then codes "401 Unauthorized"
    else if nat_eq status 404 then codes "404 Not Found"
    else if nat_eq status 405 then codes "405 Method Not Allowed"
    else if nat_eq status 411 then codes "411 Length Required"
    else if nat_eq status 413 then codes "413 Content Too Large"
    else if nat_eq status 415 then codes "415 Unsupported Media Type"
    else if nat_eq status 429 then codes "429 Too Many Requests"
    else if nat_eq status 431 then codes "431 Request Header Fields Too Large"
    else if nat_eq status 500 then codes "500 Internal Server Error"
    else if nat_eq status 501 then codes "501 Not Implemented"
    else if nat_eq status 502 then codes "502 Bad Gateway"
    else if nat_eq status 503 then codes "503 Service Unavailable"
    else []

-- what the connection does after the reply
abbrev pub connection_text : Bool → List ℕ
connection_text close = if close then codes "close" else codes "keep-alive"

-- the field that two of the statuses have
abbrev pub status_field : ℕ → List ℕ
status_field status =
    if nat_eq status 405 then codes "allow: POST\r\n"
    else if nat_eq status 401 then codes "www-authenticate: ClientKey\r\n"
    else []

-- the fields of the bound and the charge
abbrev pub cost_fields : Option (Cost × Cost) → List ℕ
cost_fields None = []
cost_fields (Some costs) = codes "x-cost-bound: " ++ cost_text costs.0 ++ codes "\r\nx-cost-charged: " ++ cost_text costs.1 ++ codes "\r\n"

-- the fields that say when a client may try again (RFC 9110, section 10.2.3), and what its window has left
abbrev pub hint_fields : Option Hint → List ℕ
hint_fields None = []
hint_fields (Some hint) = codes "retry-after: " ++ decimal hint.seconds ++ codes "\r\nx-cost-left: " ++ cost_text hint.left ++ codes "\r\n"

-- the head of a reply with a body of this length
abbrev pub head_bytes : ℕ → Bool → Option (Cost × Cost) → Option Hint → ℕ → List ℕ
head_bytes status close costs hint length =
    codes "HTTP/1.1 " ++ status_text status ++ codes "\r\ncontent-type: application/json\r\ncontent-length: " ++ decimal length
    ++ codes "\r\nconnection: " ++ connection_text close ++ codes "\r\n" ++ status_field status ++ cost_fields costs ++ hint_fields hint ++ codes "\r\n"

-- the whole reply: its head, and its body
abbrev pub reply_bytes : Answer → List ℕ
reply_bytes answer = head_bytes answer.status answer.close answer.costs answer.hint (length answer.body.items) ++ answer.body.items

-- what is left is within the cap
abbrev pub IsHint : Hint → Type 0
IsHint hint = (hint.left.types ≤ CAP) × (hint.left.fields ≤ CAP)

-- both costs are within the cap
abbrev pub AreCosts : Cost × Cost → Type 0
AreCosts costs = (costs.0.types ≤ CAP) × (costs.0.fields ≤ CAP)
    × (costs.1.types ≤ CAP) × (costs.1.fields ≤ CAP)

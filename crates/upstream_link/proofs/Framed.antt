-- Bodies and their faults.
use Rattle.std.proofs.Common.{◌≡◌, ℕ, List, [], Bool, Ok, Err, sym, ap, subst}
use Rattle.std.specs.Prelude.{Result}
use Rattle.upstream_link.specs.declared.fault.LinkFault.{LinkFault}
use Rattle.upstream_link.specs.declared.fault.LinkFault.TheVariants as fault
use Rattle.upstream_link.specs.Service.{DataSays}
use Rattle.upstream_link.specs.Bodies.{SizedIs, RestIs, BodyIs, AllSays}
use Rattle.upstream_link.specs.declared.framing.Framing.{Framing}
use Rattle.upstream_link.specs.declared.framing.Framing.TheVariants as framing

pub sized_fault : (size : ℕ) (new bytes : List ℕ) (ended : Bool) (f : LinkFault) → DataSays size new (Err f) bytes ended → SizedIs size (Err f) bytes ended
sized_fault size new bytes ended fault.Down k = absurd k
sized_fault size new bytes ended fault.Failed k = k
sized_fault size new bytes ended fault.BadReplyHead k = absurd k
sized_fault size new bytes ended fault.Coded k = absurd k
sized_fault size new bytes ended fault.TooLarge k = absurd k
sized_fault size new bytes ended fault.Truncated k = k
sized_fault size new bytes ended fault.BadChunk k = absurd k
sized_fault size new bytes ended fault.Memory k = tt

pub rest_fault : (new bytes : List ℕ) (ended : Bool) (f : LinkFault) → AllSays new (Err f) bytes ended → RestIs (Err f) bytes ended
rest_fault new bytes ended fault.Down k = absurd k
rest_fault new bytes ended fault.Failed k = k
rest_fault new bytes ended fault.BadReplyHead k = absurd k
rest_fault new bytes ended fault.Coded k = absurd k
rest_fault new bytes ended fault.TooLarge k = k
rest_fault new bytes ended fault.Truncated k = absurd k
rest_fault new bytes ended fault.BadChunk k = absurd k
rest_fault new bytes ended fault.Memory k = tt

pub no_body : (f : Framing) (items bytes : List ℕ) (ended : Bool) → f ≡ framing.NoBody → items ≡ [] → BodyIs f (Ok items) bytes ended
no_body f items bytes ended is none =
    let same : ◌≡◌ {A = Result (List ℕ) LinkFault} (Ok items) (Ok []) = ap (λ l. Ok l) none in subst (λ x. BodyIs x (Ok items) bytes ended) (sym is) same

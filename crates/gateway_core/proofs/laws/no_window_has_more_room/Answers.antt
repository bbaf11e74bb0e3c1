-- Room for it would be within the most of a window.
use Rattle.gateway_core.proofs.MostRoom.{most_granted}
use Rattle.gateway_core.proofs.laws.no_window_has_more_room.Goals as goal

pub returns : goal.returns
returns c = most_granted

-- The texts of what is wrong with a reply.
use Rattle.std.specs.Prelude.{ℕ, List, [], ◌∷◌, ◌++◌, codes}
use Rattle.std.specs.Fmt.{decimal}
use Rattle.response_meter.specs.declared.fault.MeterFault.{MeterFault}
use Rattle.response_meter.specs.declared.fault.MeterFault.TheVariants.{NotResponse, SizeBroken, Memory}
use Rattle.response_meter.specs.Faults.{why_name}

-- a fault of a reply, with its path; want of memory has no text
abbrev pub meter_text : MeterFault → List ℕ
meter_text (NotResponse path why) = codes "meter 1 NotResponse " ++ path ++ (32 ∷ why_name why)
meter_text (SizeBroken path size length) = codes "meter 2 SizeBroken " ++ path ++ (32 ∷ (decimal size ++ (32 ∷ decimal length)))
meter_text Memory = []

-- A connection that was served to its end doesn't end as lost.
use Rattle.std.proofs.Common.{◌≡◌, ℕ, inl, inr, List, length, Some, None}
use Rattle.doors.specs.Visits.{Told}
use Rattle.http_front.specs.declared.fault.FrontFault.{FrontFault}
use Rattle.http_front.specs.declared.fault.FrontFault.TheVariants as fault
use Rattle.account_shared.specs.Gains.{ClientCall}
use Rattle.gateway_workers.specs.PassedOn.{ConnectionEnd, Lost as EndingLost, Served, Service, Stop, not_begun, at_fault, after_last, EndsAfter, EndIs, EndsWith, Serves}

after_reply : (number status : ℕ) (end : ConnectionEnd) → EndsAfter number status end → end ≡ EndingLost → ⊥
after_reply number status end (inl short) lost = absurd (cc (short.1, lost))
after_reply number status end (inr (inl limit)) lost = absurd (cc (limit.2, lost))
after_reply number status end (inr (inr closed)) lost = absurd (cc (closed.2, lost))

in_silence : (number : ℕ) (f : FrontFault) (end : ConnectionEnd) → EndIs number (at_fault f None) end → end ≡ EndingLost → ⊥
in_silence number fault.BadHead end is lost = absurd (cc (is, lost))
in_silence number fault.HeadTooLarge end is lost = absurd (cc (is, lost))
in_silence number fault.NotFound end is lost = absurd (cc (is, lost))
in_silence number fault.BadMethod end is lost = absurd (cc (is, lost))
in_silence number fault.NoKey end is lost = absurd (cc (is, lost))
in_silence number fault.Coded end is lost = absurd (cc (is, lost))
in_silence number fault.BadMedia end is lost = absurd (cc (is, lost))
in_silence number fault.Chunked end is lost = absurd (cc (is, lost))
in_silence number fault.NoLength end is lost = absurd (cc (is, lost))
in_silence number fault.BadLength end is lost = absurd (cc (is, lost))
in_silence number (fault.BodyTooLarge length) end is lost = absurd (cc (is, lost))
in_silence number (fault.Truncated missing) end is lost = absurd (cc (is, lost))
in_silence number fault.End end is lost = absurd (cc (is, lost))
in_silence number fault.ReadFault end is lost = absurd (cc (is, lost))
in_silence number fault.Memory end is lost = absurd (cc (is, lost))

at_stop : (number : ℕ) (stop : Stop) (end : ConnectionEnd) → EndIs number stop end → end ≡ EndingLost → ⊥
at_stop number not_begun end is lost = absurd (cc (is, lost))
at_stop number (at_fault f None) end is lost = in_silence number f end is lost
at_stop number (at_fault f (Some r)) end is lost = after_reply number r.status end is lost
at_stop number (after_last x) end is lost = after_reply number x.reply.status end is.1 lost

pub not_lost : (s : Service) (made : ℕ) (Gained : List ClientCall → Type 0) (given back : Told) (served : Served) → Serves s made Gained given back served → served.end ≡ EndingLost → ⊥
not_lost s made Gained given back served serves lost = by_out serves.runs.connection.out
  where
    by_out : EndsWith (length serves.runs.connection.exchanges) serves.runs.connection.stop serves.runs.connection.between back.written served.replies served.end → ⊥
    by_out (inl written) = at_stop _ serves.runs.connection.stop served.end written.2 lost
    by_out (inr cut) = absurd (cc (cut.2, lost))

-- A connection that goes on, and its end.
use Rattle.std.proofs.Common.{◌≡◌, ℕ, ◌+◌, ◌<◌, inl, List, [], ◌∷◌, ◌++◌, length, refl, sym, ap, ◌∙◌, subst, arith, Bool, false, Option, Some, None}
use Rattle.std.specs.Prelude.{◌≢◌, ◌==◌}
use Rattle.std.proofs.lemmas.List.{length-append}
use Rattle.std.proofs.lemmas.Bool.{or_parts}
use Rattle.std.proofs.lemmas.Bool.Decides.{nat_tests}
use Rattle.std.specs.Io.KnownBytes.{Appends}
use Rattle.std.proofs.KnownBytes.{Appends-nil, Appends-trans}
use Rattle.account_shared.specs.Gains.{ClientCall}
use Rattle.outside.proofs.Taking.{took_none, took_more}
use Rattle.doors.specs.Visits.{Told}
use Rattle.gateway_core.specs.Numbers.{numbers_taken}
use Rattle.gateway_connections.specs.declared.ending.ConnectionEnd.{ConnectionEnd}
use Rattle.gateway_connections.specs.declared.ending.ConnectionEnd.TheVariants as ending
use Rattle.gateway_connections.specs.declared.ending.Served.{Served}
use Rattle.gateway_connections.specs.declared.reply.Reply.{Reply}
use Rattle.gateway_connections.specs.Replies.{written}
use Rattle.gateway_connections.specs.Exchanges.{Service, IsExchange}
use Rattle.gateway_connections.specs.Connections.{Stop, not_begun, StopsAt, EndsWith, carries, closes, last_of, calls_of, replies_from}
use Rattle.gateway_connections.specs.Serving.{Makes, Serves, Turns, GoesOnAfter}
use Rattle.gateway_connections.proofs.Growing.{leaves_none, makes_none, AddUp, makes_then, asks_none, asks_grow, asks_more, none_made, one_more_made, each_more, no_replies, one_more_reply}

-- a reply that doesn't carry `close`
pub stays_open : (close : Bool) (number : ℕ) (r : Reply) → number < 1000 → carries close number r ≡ false
    → (close ≡ false) × (number + 1 < 1000) × (r.status ≢ 500)
stays_open close number r few e =
    let one = or_parts close _ e in
    let two = or_parts (number + 1 == 1000) (r.status == 500) one.1 in
    let not_last : number + 1 ≢ 1000 = grind (arith, nat_tests) in
    (one.0, omega (arith, not_last, few), grind (arith, nat_tests))

-- before the first request
pub goes_on_first : (s : Service) (made : ℕ) (Gained : List ClientCall → Type 0) (t : Told) → Gained [] → GoesOnAfter s made Gained 0 [] t t
goes_on_first s made Gained t none = record {
  exchanges = [];
  each = none_made s made;
  goes_on = tt;
  few = omega arith;
  counted = refl;
  bytes = [];
  took = took_none t.left;
  asks = asks_none s.passed [];
  makes = makes_none Gained t none;
  out = subst (Appends t.written t.written) (sym (no_replies 0)) (Appends-nil t.written);
}

-- so many numbers of calls are made now where these calls were gained
abbrev pub Counts : Service → ℕ → ℕ → (List ClientCall → Type 0) → Type 0
Counts s made now Before = (calls : List ClientCall) → Before calls → now ≡ made + numbers_taken s.slots calls

-- a turn more, after which the connection goes on
pub goes_on_more : (s : Service) (made now : ℕ) (Before Now All : List ClientCall → Type 0) → AddUp Before Now All → Counts s made now Before
    → (number : ℕ) (kept : List ℕ) (front : Option (List ℕ)) (a b c : Told)
    → GoesOnAfter s made Before number kept a b → (t : Turns s now Now number kept front b c None)
    → GoesOnAfter s made All (number + 1) (t.turned.1) a c
goes_on_more s made now Before Now All then counts number kept front a b c g t =
    let u = t.turned in
    let x = u.0 in
    let xs = g.exchanges in
    let open_ = stays_open x.ask.close number x.reply g.few u.6 in
    let here : number ≡ 0 + length xs = omega (arith, g.counted) in
    record {
      exchanges = xs ++ x ∷ [];
      each = one_more_made s made xs x g.each (subst (λ n. IsExchange s n (Unit {0}) x) (counts (calls_of xs) g.makes.gains) u.5);
      goes_on = each_more (λ y. (y.ask.close ≡ false) × (y.reply.status ≢ 500)) xs x g.goes_on (open_.0, open_.2);
      few = open_.1;
      counted = omega (arith, g.counted, length-append xs (x ∷ []));
      bytes = g.bytes ++ t.bytes;
      took = took_more a.left b.left c.left g.bytes t.bytes g.took t.took;
      asks = asks_more s.passed (g.bytes ++ t.bytes) xs x (kept ++ t.bytes) u.1 (asks_grow s.passed g.bytes xs kept t.bytes g.asks) u.3;
      makes = makes_then Before Now All then a b c xs (x ∷ []) g.makes (subst (Makes Now b c) u.2 t.makes);
      out = subst (Appends a.written c.written)
          ((λ i. replies_from 0 xs ++ written (closed i) x.reply) ∙ ap (λ k. replies_from 0 xs ++ written (closes k x) x.reply) here ∙ sym (one_more_reply 0 xs x))
          (Appends-trans a.written b.written c.written (replies_from 0 xs) (written false x.reply) g.out u.7);
    }
  where
    closed : false ≡ closes number (t.turned.0)
    closed = sym t.turned.6

ends_as : (m n : ℕ) (stop : Stop) (b c : Option (List ℕ)) (count : ℕ) (end : ConnectionEnd) → m ≡ n → EndsWith m stop b c count end → EndsWith n stop b c count end
ends_as m n stop b c count end same e = subst (λ k. EndsWith k stop b c count end) same e

stops_as : (s : Service) (stop : Stop) (ended : Bool) (here : List ℕ) (m n k l : ℕ) → m ≡ n → k ≡ l → StopsAt s m k here ended stop → StopsAt s n l here ended stop
stops_as s stop ended here m n k l e f x = subst (λ i. StopsAt s i l here ended stop) e (subst (λ j. StopsAt s m j here ended stop) f x)

-- the last turn
pub goes_to_end : (s : Service) (made now : ℕ) (Before Now All : List ClientCall → Type 0) → AddUp Before Now All → Counts s made now Before
    → (number : ℕ) (kept : List ℕ) (front : Option (List ℕ)) (a b c : Told) (served : Served)
    → GoesOnAfter s made Before number kept a b → Turns s now Now number kept front b c (Some served) → Serves s made All a c served
goes_to_end s made now Before Now All then counts number kept front a b c served g t =
    let u = t.turned in
    let xs = g.exchanges in
    let all = makes_then Before Now All then a b c xs (last_of u.0) g.makes (subst (Makes Now b c) u.1 t.makes) in
    record {
      calls = calls_of (xs ++ last_of u.0);
      runs = record {
        bytes = g.bytes ++ t.bytes;
        ended = t.ended;
        took = took_more a.left b.left c.left g.bytes t.bytes g.took t.took;
        at_end = t.at_end;
        connection = record {
          exchanges = xs;
          each = g.each;
          goes_on = g.goes_on;
          few = subst (λ n. n < 1000) g.counted g.few;
          here = kept ++ t.bytes;
          asks = asks_grow s.passed g.bytes xs kept t.bytes g.asks;
          stop = u.0;
          stops = stops_as s u.0 t.ended (kept ++ t.bytes) number (length xs) now (made + numbers_taken s.slots (calls_of xs)) g.counted (counts (calls_of xs) g.makes.gains) u.2;
          between = b.written;
          replied = g.out;
          out = ends_as number (length xs) u.0 b.written c.written served.replies served.end g.counted u.3;
        };
        leaves = all.leaves;
        calls_are = refl;
      };
      gains = all.gains;
    }

-- nothing was read, and nothing written
pub never_begun : (s : Service) (made : ℕ) (Gained : List ClientCall → Type 0) (t : Told) (served : Served) → Gained [] → served.end ≡ ending.Memory → served.replies ≡ 0
    → Serves s made Gained t t served
never_begun s made Gained t served nothing is none = record {
  calls = calls_of [];
  runs = record {
    bytes = [];
    ended = false;
    took = took_none t.left;
    at_end = λ e. absurd (cc e);
    connection = record {
      exchanges = [];
      each = none_made s made;
      goes_on = tt;
      few = omega arith;
      here = [];
      asks = asks_none s.passed [];
      stop = not_begun;
      stops = (refl, refl, refl);
      between = t.written;
      replied = subst (Appends t.written t.written) (sym (no_replies 0)) (Appends-nil t.written);
      out = inl (Appends-nil t.written, none, is);
    };
    leaves = leaves_none t;
    calls_are = refl;
  };
  gains = (makes_none Gained t nothing).gains;
}

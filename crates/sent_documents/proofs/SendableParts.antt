-- Things that are written with symbols which can be printed, nested within the limit.
use Rattle.std.proofs.Common.{ℕ, suc, ◌≤◌, [], ◌∷◌, ◌++◌, refl, subst, All, Bool}
use Rattle.std.proofs.lemmas.List.Elements.{All-nil, All-cons, All-head, All-tail}
use Rattle.gql_base.specs.declared.lexical.token.TokenKind.{TokenKind}
use Rattle.gql_base.specs.ways.Symbols.{punctuator}
use Rattle.gql_base.specs.ways.Grammar.{Nested, plain, Within, Bracketed}
use Rattle.gql_base.specs.ways.FirstFaults.{level_limit}
use Rattle.gql_base.specs.printing.PrintableSymbols.{IsTextual}
use Rattle.gql_base.proofs.PrintingLaws.Rewriting.{Joined}

-- Each symbol can be printed, and is nested within the limit.
abbrev pub AreSendable : (floats : Bool) → Nested → Type 0
AreSendable floats [] = Unit {0}
AreSendable floats (w ∷ ws) = ((w.1 ≤ level_limit) × IsTextual floats w.0) × AreSendable floats ws

-- The thing is written with such symbols.
pub record Sendable (floats : Bool) (P : Nested → Type 0) : Type 0 where
  pub front : Nested
  pub sendable : AreSendable floats front
  pub written : P front

pub sendable_append : (floats : Bool) (f g : Nested) → AreSendable floats f → AreSendable floats g → AreSendable floats (f ++ g)
sendable_append floats [] g a b = b
sendable_append floats (w ∷ f) g a b = (a.0, sendable_append floats f g a.1 b)

pub sendable_front : (floats : Bool) (f g : Nested) → AreSendable floats (f ++ g) → AreSendable floats f
sendable_front floats [] g a = tt
sendable_front floats (w ∷ f) g a = (a.0, sendable_front floats f g a.1)

pub sendable_back : (floats : Bool) (f g : Nested) → AreSendable floats (f ++ g) → AreSendable floats g
sendable_back floats [] g a = a
sendable_back floats (w ∷ f) g a = sendable_back floats f g a.1

pub sendable_symbols : (floats : Bool) (ws : Nested) → Within level_limit ws → All (IsTextual floats) (plain ws) → AreSendable floats ws
sendable_symbols floats [] within all = tt
sendable_symbols floats (w ∷ ws) within all = ((within.0, All-head (IsTextual floats) w.0 (plain ws) all), sendable_symbols floats ws within.1 (All-tail (IsTextual floats) w.0 (plain ws) all))

pub within_limit : (floats : Bool) (ws : Nested) → AreSendable floats ws → Within level_limit ws
within_limit floats [] all = tt
within_limit floats (w ∷ ws) all = (all.0.0, within_limit floats ws all.1)

pub all_textual : (floats : Bool) (ws : Nested) → AreSendable floats ws → All (IsTextual floats) (plain ws)
all_textual floats [] all = All-nil (IsTextual floats)
all_textual floats (w ∷ ws) all = All-cons (IsTextual floats) w.0 (plain ws) all.0.1 (all_textual floats ws all.1)

pub joined_sendable : {P Q : Nested → Type 0} → (floats : Bool) → Sendable floats P → Sendable floats Q → Sendable floats (Joined P Q)
joined_sendable floats r q = record {
  front = r.front ++ q.front;
  sendable = sendable_append floats r.front q.front r.sendable q.sendable;
  written = (r.front, q.front, refl, r.written, q.written);
}

-- what stands between brackets, in place of what stood there
pub bracketed_sendable : (floats : Bool) (o c : TokenKind) (d : ℕ) (P Q : Nested → Type 0) (ws : Nested) → Bracketed o c d P ws → AreSendable floats ws
    → ((inner : Nested) → P inner → AreSendable floats inner → suc d ≤ level_limit → Sendable floats Q) → Sendable floats (Bracketed o c d Q)
bracketed_sendable floats o c d P Q ws is all inside =
    let h : AreSendable floats ((punctuator o, suc d) ∷ (is.0 ++ ((punctuator c, suc d) ∷ []))) = subst (AreSendable floats) is.1 all in
    let r = inside is.0 is.2 (sendable_front floats is.0 ((punctuator c, suc d) ∷ []) h.1) h.0.0 in
    record {
      front = (punctuator o, suc d) ∷ (r.front ++ ((punctuator c, suc d) ∷ []));
      sendable = (h.0, sendable_append floats r.front ((punctuator c, suc d) ∷ []) r.sendable (sendable_back floats is.0 ((punctuator c, suc d) ∷ []) h.1));
      written = (r.front, refl, r.written);
    }

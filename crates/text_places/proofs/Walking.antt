-- Going over a text, byte by byte or character by character.
use Rattle.std.proofs.Common.{◌≡◌, ℕ, suc, ◌+◌, Bool, cond, List, [], ◌∷◌, ◌++◌, sym, ap, ap₂, ◌∙◌, arith}
use Rattle.std.specs.Str.{chars}
use Rattle.std.proofs.lemmas.List.{append_assoc, append-nil}
use Rattle.std.proofs.lemmas.Str.{chars-nil}
use Rattle.text_places.specs.Places.{ends_line, lines_ended, line_start}

pub ended_next : (text : List ℕ) (at ended next : ℕ) (b : Bool) → b ≡ ends_line text at → ended ≡ lines_ended text at → next ≡ ended + cond b 1 0 → next ≡ lines_ended text (at + 1)
unfolding lines_ended
ended_next text at ended next b same is is_next =
    let more : suc at ≡ at + 1 = omega arith in
    is_next ∙ ap₂ (λ (x : ℕ) (y : Bool). x + cond y 1 0) is same ∙ ap (lines_ended text) more

pub start_next : (text : List ℕ) (at start next : ℕ) (b : Bool) → b ≡ ends_line text at → start ≡ line_start text at → next ≡ cond b (at + 1) start → next ≡ line_start text (at + 1)
unfolding line_start
start_next text at start next b same is is_next =
    let more : suc at ≡ at + 1 = omega arith in
    is_next ∙ ap₂ (λ (x : ℕ) (y : Bool). cond y (at + 1) x) is same ∙ ap (λ (k : ℕ). cond (ends_line text at) k (line_start text at)) (sym more) ∙ ap (line_start text) more

pub character_taken : (before after : List ℕ) (old rest whole : List ℕ) (c : ℕ) → chars old ≡ c ∷ chars rest → after ≡ before ++ c ∷ [] → before ++ chars old ≡ whole → after ++ chars rest ≡ whole
character_taken before after old rest whole c is pushed held =
    ap (λ (xs : List ℕ). xs ++ chars rest) pushed ∙ append_assoc before (c ∷ []) (chars rest) ∙ ap (λ (xs : List ℕ). before ++ xs) (sym is) ∙ held

pub all_taken : (before rest whole : List ℕ) → rest ≡ [] → before ++ chars rest ≡ whole → before ≡ whole
all_taken before rest whole none held =
    sym (append-nil before) ∙ ap (λ (xs : List ℕ). before ++ xs) (sym (ap chars none ∙ chars-nil)) ∙ held

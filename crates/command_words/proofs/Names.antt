-- Words whose first names a command.
use Rattle.std.proofs.Common.{◌≡◌, ◌∙◌, sym, refl, ℕ, List, codes, true, false}
use Rattle.std.specs.Str.{bytes_eq}
use Rattle.std.proofs.lemmas.Slice.Eq.{bytes_eq-Decides}
use Rattle.command_words.specs.declared.command.Command.{Command}
use Rattle.command_words.specs.declared.command.Command.TheVariants.{Help, Version, Check, Price, Explain, ExplainSchema, Audit, Introspect, Worst, Forward, Meter, Replay, Serve, Exercise, Migrate}
use Rattle.command_words.specs.Words.{AsksCheck, AsksPrice, AsksExplain, AsksAudit, AsksIntrospect, AsksWorst, AsksForward, AsksMeter, AsksReplay, AsksServe, AsksExercise, AsksMigrate, AsksAfter}

-- two names that differ
apart : (a b name : List ℕ) → bytes_eq a b ≡ false → name ≡ a → name ≡ b → ⊥
apart a b name differ is other = let same : false ≡ true = sym differ ∙ (bytes_eq-Decides a b).1 (sym is ∙ other) in cc same

pub only_check : (name : List ℕ) (words : List (List ℕ)) (command : Command) → name ≡ codes "check" → (AsksCheck words command → ⊥) → AsksAfter name words command → ⊥
only_check name words Help is none asks = apart (codes "check") (codes "--help") name refl is asks.0
only_check name words Version is none asks = apart (codes "check") (codes "--version") name refl is asks.0
only_check name words (Check schema) is none asks = none asks.1
only_check name words (Price asked) is none asks = apart (codes "check") (codes "price") name refl is asks.0
only_check name words (Explain asked) is none asks = apart (codes "check") (codes "explain") name refl is asks.0
only_check name words (ExplainSchema schema undeclared) is none asks = apart (codes "check") (codes "explain") name refl is asks.0
only_check name words (Audit asked) is none asks = apart (codes "check") (codes "audit") name refl is asks.0
only_check name words (Introspect asked) is none asks = apart (codes "check") (codes "introspect") name refl is asks.0
only_check name words (Worst asked part) is none asks = apart (codes "check") (codes "worst") name refl is asks.0
only_check name words (Forward asked) is none asks = apart (codes "check") (codes "forward") name refl is asks.0
only_check name words (Meter asked reply) is none asks = apart (codes "check") (codes "meter") name refl is asks.0
only_check name words (Replay asked) is none asks = apart (codes "check") (codes "replay") name refl is asks.0
only_check name words (Serve asked) is none asks = apart (codes "check") (codes "serve") name refl is asks.0
only_check name words (Exercise requests) is none asks = apart (codes "check") (codes "exercise") name refl is asks.0
only_check name words (Migrate clients) is none asks = apart (codes "check") (codes "migrate") name refl is asks.0

pub only_price : (name : List ℕ) (words : List (List ℕ)) (command : Command) → name ≡ codes "price" → (AsksPrice words command → ⊥) → AsksAfter name words command → ⊥
only_price name words Help is none asks = apart (codes "price") (codes "--help") name refl is asks.0
only_price name words Version is none asks = apart (codes "price") (codes "--version") name refl is asks.0
only_price name words (Check schema) is none asks = apart (codes "price") (codes "check") name refl is asks.0
only_price name words (Price asked) is none asks = none asks.1
only_price name words (Explain asked) is none asks = apart (codes "price") (codes "explain") name refl is asks.0
only_price name words (ExplainSchema schema undeclared) is none asks = apart (codes "price") (codes "explain") name refl is asks.0
only_price name words (Audit asked) is none asks = apart (codes "price") (codes "audit") name refl is asks.0
only_price name words (Introspect asked) is none asks = apart (codes "price") (codes "introspect") name refl is asks.0
only_price name words (Worst asked part) is none asks = apart (codes "price") (codes "worst") name refl is asks.0
only_price name words (Forward asked) is none asks = apart (codes "price") (codes "forward") name refl is asks.0
only_price name words (Meter asked reply) is none asks = apart (codes "price") (codes "meter") name refl is asks.0
only_price name words (Replay asked) is none asks = apart (codes "price") (codes "replay") name refl is asks.0
only_price name words (Serve asked) is none asks = apart (codes "price") (codes "serve") name refl is asks.0
only_price name words (Exercise requests) is none asks = apart (codes "price") (codes "exercise") name refl is asks.0
only_price name words (Migrate clients) is none asks = apart (codes "price") (codes "migrate") name refl is asks.0

pub only_explain : (name : List ℕ) (words : List (List ℕ)) (command : Command) → name ≡ codes "explain" → (AsksExplain words command → ⊥) → AsksAfter name words command → ⊥
only_explain name words Help is none asks = apart (codes "explain") (codes "--help") name refl is asks.0
only_explain name words Version is none asks = apart (codes "explain") (codes "--version") name refl is asks.0
only_explain name words (Check schema) is none asks = apart (codes "explain") (codes "check") name refl is asks.0
only_explain name words (Price asked) is none asks = apart (codes "explain") (codes "price") name refl is asks.0
only_explain name words (Explain asked) is none asks = none asks.1
only_explain name words (ExplainSchema schema undeclared) is none asks = none asks.1
only_explain name words (Audit asked) is none asks = apart (codes "explain") (codes "audit") name refl is asks.0
only_explain name words (Introspect asked) is none asks = apart (codes "explain") (codes "introspect") name refl is asks.0
only_explain name words (Worst asked part) is none asks = apart (codes "explain") (codes "worst") name refl is asks.0
only_explain name words (Forward asked) is none asks = apart (codes "explain") (codes "forward") name refl is asks.0
only_explain name words (Meter asked reply) is none asks = apart (codes "explain") (codes "meter") name refl is asks.0
only_explain name words (Replay asked) is none asks = apart (codes "explain") (codes "replay") name refl is asks.0
only_explain name words (Serve asked) is none asks = apart (codes "explain") (codes "serve") name refl is asks.0
only_explain name words (Exercise requests) is none asks = apart (codes "explain") (codes "exercise") name refl is asks.0
only_explain name words (Migrate clients) is none asks = apart (codes "explain") (codes "migrate") name refl is asks.0

pub only_audit : (name : List ℕ) (words : List (List ℕ)) (command : Command) → name ≡ codes "audit" → (AsksAudit words command → ⊥) → AsksAfter name words command → ⊥
only_audit name words Help is none asks = apart (codes "audit") (codes "--help") name refl is asks.0
only_audit name words Version is none asks = apart (codes "audit") (codes "--version") name refl is asks.0
only_audit name words (Check schema) is none asks = apart (codes "audit") (codes "check") name refl is asks.0
only_audit name words (Price asked) is none asks = apart (codes "audit") (codes "price") name refl is asks.0
only_audit name words (Explain asked) is none asks = apart (codes "audit") (codes "explain") name refl is asks.0
only_audit name words (ExplainSchema schema undeclared) is none asks = apart (codes "audit") (codes "explain") name refl is asks.0
only_audit name words (Audit asked) is none asks = none asks.1
only_audit name words (Introspect asked) is none asks = apart (codes "audit") (codes "introspect") name refl is asks.0
only_audit name words (Worst asked part) is none asks = apart (codes "audit") (codes "worst") name refl is asks.0
only_audit name words (Forward asked) is none asks = apart (codes "audit") (codes "forward") name refl is asks.0
only_audit name words (Meter asked reply) is none asks = apart (codes "audit") (codes "meter") name refl is asks.0
only_audit name words (Replay asked) is none asks = apart (codes "audit") (codes "replay") name refl is asks.0
only_audit name words (Serve asked) is none asks = apart (codes "audit") (codes "serve") name refl is asks.0
only_audit name words (Exercise requests) is none asks = apart (codes "audit") (codes "exercise") name refl is asks.0
only_audit name words (Migrate clients) is none asks = apart (codes "audit") (codes "migrate") name refl is asks.0

pub only_introspect : (name : List ℕ) (words : List (List ℕ)) (command : Command) → name ≡ codes "introspect" → (AsksIntrospect words command → ⊥) → AsksAfter name words command → ⊥
only_introspect name words Help is none asks = apart (codes "introspect") (codes "--help") name refl is asks.0
only_introspect name words Version is none asks = apart (codes "introspect") (codes "--version") name refl is asks.0
only_introspect name words (Check schema) is none asks = apart (codes "introspect") (codes "check") name refl is asks.0
only_introspect name words (Price asked) is none asks = apart (codes "introspect") (codes "price") name refl is asks.0
only_introspect name words (Explain asked) is none asks = apart (codes "introspect") (codes "explain") name refl is asks.0
only_introspect name words (ExplainSchema schema undeclared) is none asks = apart (codes "introspect") (codes "explain") name refl is asks.0
only_introspect name words (Audit asked) is none asks = apart (codes "introspect") (codes "audit") name refl is asks.0
only_introspect name words (Introspect asked) is none asks = none asks.1
only_introspect name words (Worst asked part) is none asks = apart (codes "introspect") (codes "worst") name refl is asks.0
only_introspect name words (Forward asked) is none asks = apart (codes "introspect") (codes "forward") name refl is asks.0
only_introspect name words (Meter asked reply) is none asks = apart (codes "introspect") (codes "meter") name refl is asks.0
only_introspect name words (Replay asked) is none asks = apart (codes "introspect") (codes "replay") name refl is asks.0
only_introspect name words (Serve asked) is none asks = apart (codes "introspect") (codes "serve") name refl is asks.0
only_introspect name words (Exercise requests) is none asks = apart (codes "introspect") (codes "exercise") name refl is asks.0
only_introspect name words (Migrate clients) is none asks = apart (codes "introspect") (codes "migrate") name refl is asks.0

pub only_worst : (name : List ℕ) (words : List (List ℕ)) (command : Command) → name ≡ codes "worst" → (AsksWorst words command → ⊥) → AsksAfter name words command → ⊥
only_worst name words Help is none asks = apart (codes "worst") (codes "--help") name refl is asks.0
only_worst name words Version is none asks = apart (codes "worst") (codes "--version") name refl is asks.0
only_worst name words (Check schema) is none asks = apart (codes "worst") (codes "check") name refl is asks.0
only_worst name words (Price asked) is none asks = apart (codes "worst") (codes "price") name refl is asks.0
only_worst name words (Explain asked) is none asks = apart (codes "worst") (codes "explain") name refl is asks.0
only_worst name words (ExplainSchema schema undeclared) is none asks = apart (codes "worst") (codes "explain") name refl is asks.0
only_worst name words (Audit asked) is none asks = apart (codes "worst") (codes "audit") name refl is asks.0
only_worst name words (Introspect asked) is none asks = apart (codes "worst") (codes "introspect") name refl is asks.0
only_worst name words (Worst asked part) is none asks = none asks.1
only_worst name words (Forward asked) is none asks = apart (codes "worst") (codes "forward") name refl is asks.0
only_worst name words (Meter asked reply) is none asks = apart (codes "worst") (codes "meter") name refl is asks.0
only_worst name words (Replay asked) is none asks = apart (codes "worst") (codes "replay") name refl is asks.0
only_worst name words (Serve asked) is none asks = apart (codes "worst") (codes "serve") name refl is asks.0
only_worst name words (Exercise requests) is none asks = apart (codes "worst") (codes "exercise") name refl is asks.0
only_worst name words (Migrate clients) is none asks = apart (codes "worst") (codes "migrate") name refl is asks.0

pub only_forward : (name : List ℕ) (words : List (List ℕ)) (command : Command) → name ≡ codes "forward" → (AsksForward words command → ⊥) → AsksAfter name words command → ⊥
only_forward name words Help is none asks = apart (codes "forward") (codes "--help") name refl is asks.0
only_forward name words Version is none asks = apart (codes "forward") (codes "--version") name refl is asks.0
only_forward name words (Check schema) is none asks = apart (codes "forward") (codes "check") name refl is asks.0
only_forward name words (Price asked) is none asks = apart (codes "forward") (codes "price") name refl is asks.0
only_forward name words (Explain asked) is none asks = apart (codes "forward") (codes "explain") name refl is asks.0
only_forward name words (ExplainSchema schema undeclared) is none asks = apart (codes "forward") (codes "explain") name refl is asks.0
only_forward name words (Audit asked) is none asks = apart (codes "forward") (codes "audit") name refl is asks.0
only_forward name words (Introspect asked) is none asks = apart (codes "forward") (codes "introspect") name refl is asks.0
only_forward name words (Worst asked part) is none asks = apart (codes "forward") (codes "worst") name refl is asks.0
only_forward name words (Forward asked) is none asks = none asks.1
only_forward name words (Meter asked reply) is none asks = apart (codes "forward") (codes "meter") name refl is asks.0
only_forward name words (Replay asked) is none asks = apart (codes "forward") (codes "replay") name refl is asks.0
only_forward name words (Serve asked) is none asks = apart (codes "forward") (codes "serve") name refl is asks.0
only_forward name words (Exercise requests) is none asks = apart (codes "forward") (codes "exercise") name refl is asks.0
only_forward name words (Migrate clients) is none asks = apart (codes "forward") (codes "migrate") name refl is asks.0

pub only_meter : (name : List ℕ) (words : List (List ℕ)) (command : Command) → name ≡ codes "meter" → (AsksMeter words command → ⊥) → AsksAfter name words command → ⊥
only_meter name words Help is none asks = apart (codes "meter") (codes "--help") name refl is asks.0
only_meter name words Version is none asks = apart (codes "meter") (codes "--version") name refl is asks.0
only_meter name words (Check schema) is none asks = apart (codes "meter") (codes "check") name refl is asks.0
only_meter name words (Price asked) is none asks = apart (codes "meter") (codes "price") name refl is asks.0
only_meter name words (Explain asked) is none asks = apart (codes "meter") (codes "explain") name refl is asks.0
only_meter name words (ExplainSchema schema undeclared) is none asks = apart (codes "meter") (codes "explain") name refl is asks.0
only_meter name words (Audit asked) is none asks = apart (codes "meter") (codes "audit") name refl is asks.0
only_meter name words (Introspect asked) is none asks = apart (codes "meter") (codes "introspect") name refl is asks.0
only_meter name words (Worst asked part) is none asks = apart (codes "meter") (codes "worst") name refl is asks.0
only_meter name words (Forward asked) is none asks = apart (codes "meter") (codes "forward") name refl is asks.0
only_meter name words (Meter asked reply) is none asks = none asks.1
only_meter name words (Replay asked) is none asks = apart (codes "meter") (codes "replay") name refl is asks.0
only_meter name words (Serve asked) is none asks = apart (codes "meter") (codes "serve") name refl is asks.0
only_meter name words (Exercise requests) is none asks = apart (codes "meter") (codes "exercise") name refl is asks.0
only_meter name words (Migrate clients) is none asks = apart (codes "meter") (codes "migrate") name refl is asks.0

pub only_replay : (name : List ℕ) (words : List (List ℕ)) (command : Command) → name ≡ codes "replay" → (AsksReplay words command → ⊥) → AsksAfter name words command → ⊥
only_replay name words Help is none asks = apart (codes "replay") (codes "--help") name refl is asks.0
only_replay name words Version is none asks = apart (codes "replay") (codes "--version") name refl is asks.0
only_replay name words (Check schema) is none asks = apart (codes "replay") (codes "check") name refl is asks.0
only_replay name words (Price asked) is none asks = apart (codes "replay") (codes "price") name refl is asks.0
only_replay name words (Explain asked) is none asks = apart (codes "replay") (codes "explain") name refl is asks.0
only_replay name words (ExplainSchema schema undeclared) is none asks = apart (codes "replay") (codes "explain") name refl is asks.0
only_replay name words (Audit asked) is none asks = apart (codes "replay") (codes "audit") name refl is asks.0
only_replay name words (Introspect asked) is none asks = apart (codes "replay") (codes "introspect") name refl is asks.0
only_replay name words (Worst asked part) is none asks = apart (codes "replay") (codes "worst") name refl is asks.0
only_replay name words (Forward asked) is none asks = apart (codes "replay") (codes "forward") name refl is asks.0
only_replay name words (Meter asked reply) is none asks = apart (codes "replay") (codes "meter") name refl is asks.0
only_replay name words (Replay asked) is none asks = none asks.1
only_replay name words (Serve asked) is none asks = apart (codes "replay") (codes "serve") name refl is asks.0
only_replay name words (Exercise requests) is none asks = apart (codes "replay") (codes "exercise") name refl is asks.0
only_replay name words (Migrate clients) is none asks = apart (codes "replay") (codes "migrate") name refl is asks.0

pub only_serve : (name : List ℕ) (words : List (List ℕ)) (command : Command) → name ≡ codes "serve" → (AsksServe words command → ⊥) → AsksAfter name words command → ⊥
only_serve name words Help is none asks = apart (codes "serve") (codes "--help") name refl is asks.0
only_serve name words Version is none asks = apart (codes "serve") (codes "--version") name refl is asks.0
only_serve name words (Check schema) is none asks = apart (codes "serve") (codes "check") name refl is asks.0
only_serve name words (Price asked) is none asks = apart (codes "serve") (codes "price") name refl is asks.0
only_serve name words (Explain asked) is none asks = apart (codes "serve") (codes "explain") name refl is asks.0
only_serve name words (ExplainSchema schema undeclared) is none asks = apart (codes "serve") (codes "explain") name refl is asks.0
only_serve name words (Audit asked) is none asks = apart (codes "serve") (codes "audit") name refl is asks.0
only_serve name words (Introspect asked) is none asks = apart (codes "serve") (codes "introspect") name refl is asks.0
only_serve name words (Worst asked part) is none asks = apart (codes "serve") (codes "worst") name refl is asks.0
only_serve name words (Forward asked) is none asks = apart (codes "serve") (codes "forward") name refl is asks.0
only_serve name words (Meter asked reply) is none asks = apart (codes "serve") (codes "meter") name refl is asks.0
only_serve name words (Replay asked) is none asks = apart (codes "serve") (codes "replay") name refl is asks.0
only_serve name words (Serve asked) is none asks = none asks.1
only_serve name words (Exercise requests) is none asks = apart (codes "serve") (codes "exercise") name refl is asks.0
only_serve name words (Migrate clients) is none asks = apart (codes "serve") (codes "migrate") name refl is asks.0

pub only_exercise : (name : List ℕ) (words : List (List ℕ)) (command : Command) → name ≡ codes "exercise" → (AsksExercise words command → ⊥) → AsksAfter name words command → ⊥
only_exercise name words Help is none asks = apart (codes "exercise") (codes "--help") name refl is asks.0
only_exercise name words Version is none asks = apart (codes "exercise") (codes "--version") name refl is asks.0
only_exercise name words (Check schema) is none asks = apart (codes "exercise") (codes "check") name refl is asks.0
only_exercise name words (Price asked) is none asks = apart (codes "exercise") (codes "price") name refl is asks.0
only_exercise name words (Explain asked) is none asks = apart (codes "exercise") (codes "explain") name refl is asks.0
only_exercise name words (ExplainSchema schema undeclared) is none asks = apart (codes "exercise") (codes "explain") name refl is asks.0
only_exercise name words (Audit asked) is none asks = apart (codes "exercise") (codes "audit") name refl is asks.0
only_exercise name words (Introspect asked) is none asks = apart (codes "exercise") (codes "introspect") name refl is asks.0
only_exercise name words (Worst asked part) is none asks = apart (codes "exercise") (codes "worst") name refl is asks.0
only_exercise name words (Forward asked) is none asks = apart (codes "exercise") (codes "forward") name refl is asks.0
only_exercise name words (Meter asked reply) is none asks = apart (codes "exercise") (codes "meter") name refl is asks.0
only_exercise name words (Replay asked) is none asks = apart (codes "exercise") (codes "replay") name refl is asks.0
only_exercise name words (Serve asked) is none asks = apart (codes "exercise") (codes "serve") name refl is asks.0
only_exercise name words (Exercise requests) is none asks = none asks.1
only_exercise name words (Migrate clients) is none asks = apart (codes "exercise") (codes "migrate") name refl is asks.0

pub only_migrate : (name : List ℕ) (words : List (List ℕ)) (command : Command) → name ≡ codes "migrate" → (AsksMigrate words command → ⊥) → AsksAfter name words command → ⊥
only_migrate name words Help is none asks = apart (codes "migrate") (codes "--help") name refl is asks.0
only_migrate name words Version is none asks = apart (codes "migrate") (codes "--version") name refl is asks.0
only_migrate name words (Check schema) is none asks = apart (codes "migrate") (codes "check") name refl is asks.0
only_migrate name words (Price asked) is none asks = apart (codes "migrate") (codes "price") name refl is asks.0
only_migrate name words (Explain asked) is none asks = apart (codes "migrate") (codes "explain") name refl is asks.0
only_migrate name words (ExplainSchema schema undeclared) is none asks = apart (codes "migrate") (codes "explain") name refl is asks.0
only_migrate name words (Audit asked) is none asks = apart (codes "migrate") (codes "audit") name refl is asks.0
only_migrate name words (Introspect asked) is none asks = apart (codes "migrate") (codes "introspect") name refl is asks.0
only_migrate name words (Worst asked part) is none asks = apart (codes "migrate") (codes "worst") name refl is asks.0
only_migrate name words (Forward asked) is none asks = apart (codes "migrate") (codes "forward") name refl is asks.0
only_migrate name words (Meter asked reply) is none asks = apart (codes "migrate") (codes "meter") name refl is asks.0
only_migrate name words (Replay asked) is none asks = apart (codes "migrate") (codes "replay") name refl is asks.0
only_migrate name words (Serve asked) is none asks = apart (codes "migrate") (codes "serve") name refl is asks.0
only_migrate name words (Exercise requests) is none asks = apart (codes "migrate") (codes "exercise") name refl is asks.0
only_migrate name words (Migrate clients) is none asks = none asks.1

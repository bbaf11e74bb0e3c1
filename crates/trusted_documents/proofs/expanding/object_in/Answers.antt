use Rattle.std.proofs.Common.{sym, ◌∙◌, true≢false, inl}
use Rattle.request_bodies.proofs.Bodies.{json_read, not_json}
use Rattle.trusted_documents.proofs.expanding.object_in.Goals as goal

pub returns-then-is_object-clause-object : goal.returns-then-is_object-clause-object
returns-then-is_object-clause-object c = (json_read _ _ c.in-Ok.ensures.ok, sym c.is_object.ensures ∙ c.if-is_object.true)

pub returns-else-is_memory-clause-none : goal.returns-else-is_memory-clause-none
returns-else-is_memory-clause-none c = λ _. inl (not_json _ (c.in-Err.ensures.err (λ memory. true≢false (sym (c.if-is_memory.ensures.1 memory)))))

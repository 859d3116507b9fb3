-- What is read is the text up to one byte more than it may have, and what is printed is its trace.
use Rattle.std.proofs.Common.{◌≡◌, ℕ, List, IfSome, OnOk, Result, Option, Some, None, Ok, Err, subst, ap, ◌∙◌, take}
use Rattle.std.specs.Io.KnownBytes.{Appends}
use Rattle.lines.proofs.Writing.{wrote-front}
use Rattle.trace.specs.Trace.{trace_text}
use Rattle.trace.proofs.print_trace.Goals as goal

-- what was printed is the trace of a known text
told : {T E : Type 0} (r : Result T E) (known old new : Option (List ℕ)) (printed read : List ℕ) (n size : ℕ)
    → OnOk r (Appends old new printed) → printed ≡ trace_text read → IfSome known (λ text. read ≡ take n text) → n ≡ size
    → OnOk r (IfSome known (λ text. Appends old new (trace_text (take size text))))
told (Err e) known old new printed read n size appended is_trace start long = tt
told (Ok x) None old new printed read n size appended is_trace start long = tt
told (Ok x) (Some text) old new printed read n size appended is_trace start long =
    subst (Appends old new) (is_trace ∙ ap trace_text (start ∙ ap (λ (k : ℕ). take k text) long)) appended

pub returns : goal.returns
returns g c =
    told c.write_all.result _ _ _ _ _ _ _ c.write_all.ensures.bytes (wrote-front c.trace-printed.ensures.wrote)
    c.in_ok-length.ensures.start c.read_full.auto.buffer

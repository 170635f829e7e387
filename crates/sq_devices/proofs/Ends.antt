-- What was taken up to the end of an input.
use Rattle.std.proofs.Common.{◌≡◌, ◌++◌, ◌∙◌, ℕ, List, [], Option, None, Some, IfSome, ap, sym, subst, append-nil}
use Rattle.std.specs.Io.KnownBytes.{Consumes, IsAtEnd}
use Rattle.std.specs.List.{concat}
use Rattle.sq_devices.specs.Changes.{Taken, TookAll, TookReported}

all_of : (before after : Option (List ℕ)) (bytes : List ℕ) (Of : List ℕ → Type 0) → Consumes before after bytes
    → IsAtEnd after → Of bytes → IfSome before (λ reported. (after ≡ Some []) × Of reported)
all_of None after bytes Of consumed end of = tt
all_of (Some x) None bytes Of consumed end of = absurd consumed
all_of (Some x) (Some y) bytes Of consumed end of =
    let same : bytes ≡ x = sym (consumed ∙ ap (λ l. bytes ++ l) end ∙ append-nil bytes) in
    (ap Some end, subst Of same of)

-- where the source reports its bytes, these are what was taken
pub took_reported : (t : Taken) (Of : List ℕ → Type 0) → TookAll t Of → TookReported t Of
took_reported t Of (pieces, got, consumed, end, of) = all_of t.before t.after (concat pieces) Of consumed end of

-- What an order stores if there is room.
use Rattle.std.proofs.Common.{◌≡◌, ◌⊎◌, ◌++◌, ◌∙◌, ℕ, Bool, false, if◌then◌else◌, refl, true, List, ap, ap₂, append-nil, arith, inl, inr, length, subst, sym, take}
use Rattle.std.proofs.lemmas.List.{take_all}
use Rattle.sq_feed.specs.declared.message.Timed.{Timed}
use Rattle.sq_feed.specs.Orders.{HasSorted}
use Rattle.squitter_c.specs.FeedCalls.{squitters_of}
use Rattle.squitter_c.specs.OrderLaws.{AllFlushed, AllSorted}
use Rattle.squitter_c.specs.declared.faults.Fault.{Fault}
use Rattle.squitter_c.specs.declared.faults.Reason.TheVariants as reasons
use Rattle.squitter_c.specs.Faults.{fault_of, none}

-- all elements of two arrays of equal length were taken
taken_all : (count : ℕ) (moments : List ℕ) (frames : List (List ℕ)) → length moments ≡ length frames
    → (count ≡ length moments) ⊎ (count ≡ length frames)
    → squitters_of (take count moments) (take count frames) ≡ squitters_of moments frames
taken_all count moments frames long (inl is) =
    ap₂ squitters_of (take_all count moments (omega (arith, is))) (take_all count frames (omega (arith, is, long)))
taken_all count moments frames long (inr is) =
    ap₂ squitters_of (take_all count moments (omega (arith, is, long))) (take_all count frames (omega (arith, is)))

-- a call with code 0 did not find the order full
not_full : (is_full : Bool) (fault : Fault) → fault ≡ (if is_full then fault_of reasons.Memory else none)
    → fault ≡ none → is_full ≡ false
not_full true fault is good = absurd (omega (arith, ap (λ (f : Fault). f.code) (sym is ∙ good)))
not_full false fault is good = refl

pub all_sorted : AllSorted
all_sorted k new moments moments_were stored frames frames_were stored_frames before after fault
    (next, is_full, is, taken, fault_is) good long room slot = (
      next,
      is,
      subst (λ (came : List Timed). HasSorted k came
          (squitters_of (take after.written stored) (take after.written stored_frames)) next)
          (taken_all after.taken moments frames long
          (taken.all (not_full is_full fault fault_is good) room slot).0) taken.given,
    )

pub all_flushed : AllFlushed
all_flushed k new moments_were stored frames_were stored_frames before after fault (next, is, given, good) room slot =
    let none = given.all room slot in
    let given_is = squitters_of (take after.written stored) (take after.written stored_frames) in (
      next,
      is,
      good,
      none,
      sym (append-nil given_is) ∙ ap (λ (l : List Timed). given_is ++ l) (sym none) ∙ given.given.held,
    )

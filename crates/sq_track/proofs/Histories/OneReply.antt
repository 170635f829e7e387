-- A call has at most one reply, unless it is out of memory.
use Rattle.std.proofs.Common.{◌≡◌, ◌∙◌, ℕ, ◌≤◌, ◌<◌, Option, Some, IfSome, Ok, Err, refl, sym, ap, subst, arith}
use Rattle.sq_track.specs.declared.heard.TrackFault.TheVariants.{NoLimit, Memory, MomentBack, Full}
use Rattle.sq_track.specs.History.{History}
use Rattle.sq_track.specs.Replies.{IsInTime, last_moment}
use Rattle.sq_track.specs.Laws.{OneReply}
use Rattle.sq_track.proofs.Lists.Found.{same_some}
use Rattle.sq_track.proofs.Histories.OneAnswer.{one_answer}

in_time_is_back : {A : Type 0} (history : History) (moment last : ℕ) → IsInTime history moment
    → last_moment history ≡ Some last → moment < last → A
in_time_is_back history moment last in_time e back =
    let le : last ≤ moment = subst (λ (o : Option ℕ). IfSome o (λ l. l ≤ moment)) e in_time in
    absurd (omega (arith, le, back))

pub one_reply : OneReply
one_reply s history m q (Ok x) (Ok y) a b h k = ap Ok (one_answer s.window s.site history m q x y h.1 k.1)
one_reply s history m q (Ok x) (Err (MomentBack l)) a b h k = in_time_is_back history m l h.0.in_time k.0 k.1
one_reply s history m q (Ok x) (Err Full) a b h k = absurd (h.0.room k.1)
one_reply s history m q (Ok x) (Err Memory) a b h k = absurd (b refl)
one_reply s history m q (Ok x) (Err NoLimit) a b h k = absurd k
one_reply s history m q (Err (MomentBack l)) (Ok y) a b h k = in_time_is_back history m l k.0.in_time h.0 h.1
one_reply s history m q (Err (MomentBack l)) (Err (MomentBack n)) a b h k =
    ap (λ (last : ℕ). Err (MomentBack last)) (same_some l n (sym h.0 ∙ k.0))
one_reply s history m q (Err (MomentBack l)) (Err Full) a b h k = in_time_is_back history m l k.0 h.0 h.1
one_reply s history m q (Err (MomentBack l)) (Err Memory) a b h k = absurd (b refl)
one_reply s history m q (Err (MomentBack l)) (Err NoLimit) a b h k = absurd k
one_reply s history m q (Err Full) (Ok y) a b h k = absurd (k.0.room h.1)
one_reply s history m q (Err Full) (Err (MomentBack n)) a b h k = in_time_is_back history m n h.0 k.0 k.1
one_reply s history m q (Err Full) (Err Full) a b h k = refl
one_reply s history m q (Err Full) (Err Memory) a b h k = absurd (b refl)
one_reply s history m q (Err Full) (Err NoLimit) a b h k = absurd k
one_reply s history m q (Err Memory) y a b h k = absurd (a refl)
one_reply s history m q (Err NoLimit) y a b h k = absurd h

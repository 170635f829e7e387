-- Squitters that are put, as they come or in an order.
use Rattle.std.proofs.Common.{◌≡◌, ◌≢◌, ◌<◌, ◌++◌, ◌∙◌, ℕ, Bool, List, [], ◌∷◌, Option, None, Some, Result, Ok, Err}
use Rattle.std.proofs.Common.{ap, append_assoc, append-nil, arith, length, refl, subst, sym}
use Rattle.std.specs.Prelude.{IfErr, OnErr, OnOk}
use Rattle.sq_devices.specs.Calls.{HasPut}
use Rattle.sq_devices.specs.Device.{WroteFront}
use Rattle.sq_devices.specs.declared.device.Sink.{Ghosts as SinkGhosts}
use Rattle.sq_devices.proofs.Puts.{HasPut-nil, HasPut-trans}
use Rattle.sq_feed.specs.declared.message.Timed.{Timed}
use Rattle.sq_feed.specs.Ears.{told_of_all}
use Rattle.sq_feed.specs.Feeds.{Feeding, lines_of}
use Rattle.sq_feed.specs.Orders.{HasFlushed, HasSorted, Sorting, given_all}
use Rattle.sq_feed.proofs.Feeding.{lines_of-append}
use Rattle.sq_feed.proofs.Ordering.{settled_none, sorted_so}
use Rattle.sq_log.specs.declared.run.RunFault.{RunFault}
use Rattle.sq_log.specs.declared.run.RunFault.TheVariants.{Memory, Read, Write}
use Rattle.sq_commands.specs.Feed.{HasLined, HasPutLast, HasPutPart, HasPutSorted, HasStopped, HasToldText, IsSettled}
use Rattle.sq_commands.specs.Feed.{given_by}
use Rattle.sq_commands.specs.Feed.{order_after, order_with, waiting_in}
use Rattle.sq_commands.proofs.Feeding.{HasFedText, wrote_after}

-- a prefix of a text is one of a longer text
pub wrote_front_more : (a c : Option (List ℕ)) (x y : List ℕ) → WroteFront a c x → WroteFront a c (x ++ y)
wrote_front_more a c x y (part, (rest, is), grown) =
    (part, (rest ++ y, ap (λ l. l ++ y) is ∙ append_assoc part rest y), grown)

-- nothing was written
wrote_nothing : (a : Option (List ℕ)) (x : List ℕ) → WroteFront a a x
wrote_nothing None x = ([], (x, refl), tt)
wrote_nothing (Some xs) x = ([], (x, refl), sym (append-nil xs))

-- the squitters that are given, and then more
given_join : (order : Option Sorting) (a b : List Timed)
    → given_by order (a ++ b) ≡ given_by order a ++ given_by (order_after order a) b
given_join (Some state) a b = (sorted_so state a).gives b
given_join None a b = refl

-- the lines of squitters, and then of more
pub lines_join : (order : Option Sorting) (a b : List Timed) → lines_of (given_by order (a ++ b))
    ≡ lines_of (given_by order a) ++ lines_of (given_by (order_after order a) b)
lines_join order a b =
    ap lines_of (given_join order a b) ∙ lines_of-append (given_by order a) (given_by (order_after order a) b)

pub orders_join : (order : Option Sorting) (a b : List Timed)
    → order_after order (a ++ b) ≡ order_after (order_after order a) b
orders_join (Some state) a b = ap (λ (s : Sorting). Some s) ((sorted_so state a).leaves b)
orders_join None a b = refl

-- ---- nothing came

pub settled_now : (order : Option Sorting) → IsSettled order
    → (given_by order [] ≡ []) × (order_after order [] ≡ order)
settled_now (Some state) settled =
    let now = settled_none state settled in (now.0, ap (λ (s : Sorting). Some s) now.1)
settled_now None settled = (refl, refl)

pub put_nothing : (order : Option Sorting) (Of : List ℕ → Type 0) → IsSettled order → Of []
    → HasPutSorted order order [] Of
put_nothing order Of settled of =
    let now = settled_now order settled in (sym now.1, settled, subst (λ l. Of (lines_of l)) (sym now.0) of)

-- ---- more came

pub put_more : (old mid new : Option Sorting) (a b : List Timed) (P Q R : List ℕ → Type 0)
    → ((x y : List ℕ) → P x → Q y → R (x ++ y)) → HasPutSorted old mid a P → HasPutSorted mid new b Q
    → HasPutSorted old new (a ++ b) R
put_more old mid new a b P Q R join (goes, fine, p) (goes', fine', q) = (
  goes' ∙ ap (λ o. order_after o b) goes ∙ sym (orders_join old a b),
  fine',
  subst R (ap (λ o. lines_of (given_by old a) ++ lines_of (given_by o b)) goes ∙ sym (lines_join old a b))
      (join (lines_of (given_by old a)) (lines_of (given_by mid b)) p q),
)

pub put_part_more : (old mid : Option Sorting) (a b : List Timed) (P Q R : List ℕ → Type 0)
    → ((x y : List ℕ) → P x → Q y → R (x ++ y)) → HasPutSorted old mid a P → HasPutPart mid b Q
    → HasPutPart old (a ++ b) R
put_part_more old mid a b P Q R join (goes, fine, p) second =
    subst R (ap (λ o. lines_of (given_by old a) ++ lines_of (given_by o b)) goes ∙ sym (lines_join old a b))
    (join (lines_of (given_by old a)) (lines_of (given_by mid b)) p second)

-- a reason to stop after some squitters is one before them
pub stopped_before : (old mid : Option Sorting) (came : List Timed) (has_failed : Bool) (fault : RunFault)
    → mid ≡ order_after old came → HasStopped mid has_failed fault → HasStopped old has_failed fault
stopped_before old mid came has_failed Read goes none = none
stopped_before old mid came has_failed Write goes failed = failed
stopped_before None mid came has_failed Memory goes some = absurd (some goes)
stopped_before (Some state) mid came has_failed Memory goes some = λ none. cc none

-- without a delay there is no order
pub ordered_by : (reorder : ℕ) → order_with reorder ≢ None → reorder ≢ 0
ordered_by reorder some zero = some (ap (λ (n : ℕ). order_with n) zero)

-- a part of the squitters came, and a prefix of these lines and of those that are given was written
pub part_given : (old mid : Sorting) (a b came given : List Timed) (front : List ℕ) (before after : Option (List ℕ))
    → came ≡ a ++ b → HasSorted old a given mid → WroteFront before after (front ++ lines_of given)
    → WroteFront before after (front ++ lines_of (given_all old came))
part_given old mid a b came given front before after is sorts wrote =
    let rest = given_all mid b in
    subst (WroteFront before after)
    (append_assoc front (lines_of given) (lines_of rest)
    ∙ ap (λ l. front ++ l) (sym (lines_of-append given rest)
    ∙ ap lines_of (sym (sorts.gives b) ∙ ap (given_all old) (sym is))))
    (wrote_front_more before after (front ++ lines_of given) (lines_of rest) wrote)

-- ---- squitters that are held

pub flushed_front : (old new : Sorting) (given : List Timed) (before after : Option (List ℕ))
    → HasFlushed old given new → WroteFront before after (lines_of given) → WroteFront before after (lines_of old.held)
flushed_front old new given before after flushed wrote =
    subst (WroteFront before after) (sym (lines_of-append given new.held) ∙ ap lines_of flushed.held)
    (wrote_front_more before after (lines_of given) (lines_of new.held) wrote)

-- ---- lines in a buffer

module _ {K : Type 0} (k : SinkGhosts K) (a b : K) where
  -- lines were appended, and then others
  pub lined_more : (c : K) (t u v x y : List ℕ) → HasLined k a b t u x → HasLined k b c u v y
      → HasLined k a c t v (x ++ y)
  lined_more c t u v x y (p, put, is) (q, more, next) = (
    p ++ q,
    HasPut-trans k a b c p q put more,
    append_assoc p q v ∙ ap (λ l. p ++ l) next ∙ sym (append_assoc p u y) ∙ ap (λ l. l ++ y) is ∙ append_assoc t x y,
  )

  -- lines were appended, and then a prefix of them and of others was written
  pub lined_part : (c : Option (List ℕ)) (t u x y : List ℕ) → HasLined k a b t u x
      → WroteFront (k.written b) c (u ++ y) → WroteFront (k.written a) c (t ++ (x ++ y))
  lined_part c t u x y (p, put, is) wrote =
      subst (WroteFront (k.written a) c)
      (sym (append_assoc p u y) ∙ ap (λ l. l ++ y) is ∙ append_assoc t x y)
      (wrote_after (k.written a) (k.written b) c p (u ++ y) put.0 wrote)

  -- lines were appended, and no others after them
  pub lined_begun : (t u x y : List ℕ) → HasLined k a b t u x → WroteFront (k.written a) (k.written b) (t ++ (x ++ y))
  lined_begun t u x y lined =
      lined_part (k.written b) t u x y lined (wrote_nothing (k.written b) (u ++ y))

  -- lines were appended to none, and then put
  pub lined_put : (c : K) (u x : List ℕ) → HasLined k a b [] u x → HasPut k b c u → HasPut k a c x
  lined_put c u x (p, put, is) more = subst (HasPut k a c) is (HasPut-trans k a b c p u put more)

  pub lined_front : (c : Option (List ℕ)) (u x : List ℕ) → HasLined k a b [] u x → WroteFront (k.written b) c u
      → WroteFront (k.written a) c x
  lined_front c u x (p, put, is) wrote =
      subst (WroteFront (k.written a) c) is (wrote_after (k.written a) (k.written b) c p u put.0 wrote)

pub lined_nothing : {K : Type 0} (k : SinkGhosts K) (sink : K) (text : List ℕ) → HasLined k sink sink text text []
lined_nothing k sink text = ([], HasPut-nil k sink, sym (append-nil text))

-- ---- the last squitters

-- the lines of those that came last, and of those that are held
pub last_put : (old new : Option Sorting) (came : List Timed) (Of On : List ℕ → Type 0) → HasPutSorted old new came Of
    → ((x : List ℕ) → Of x → On (x ++ lines_of (waiting_in new))) → HasPutLast old came On
last_put old new came Of On (goes, fine, of) on =
    subst (λ o. On (lines_of (given_by old came) ++ lines_of (waiting_in o))) goes
    (on (lines_of (given_by old came)) of)

pub last_part : (old : Option Sorting) (came : List Timed) (before after : Option (List ℕ)) (On : List ℕ → Type 0)
    → ((x : List ℕ) → WroteFront before after x → On x)
    → HasPutPart old came (WroteFront before after) → HasPutLast old came On
last_part old came before after On on put =
    on _ (wrote_front_more before after (lines_of (given_by old came)) (lines_of (waiting_in (order_after old came)))
    put)

-- a part of them came
pub part_more : (old : Option Sorting) (a b : List Timed) (before after : Option (List ℕ))
    → HasPutPart old a (WroteFront before after) → HasPutPart old (a ++ b) (WroteFront before after)
part_more old a b before after put =
    subst (WroteFront before after) (sym (lines_join old a b))
    (wrote_front_more before after (lines_of (given_by old a)) (lines_of (given_by (order_after old a) b)) put)

-- ---- results

pub on_ok : {X E : Type 0} {A B : Type 0} (r : Result X E) → (A → B) → OnOk r A → OnOk r B
on_ok (Ok x) f a = f a
on_ok (Err e) f a = tt

-- two facts of one result
pub both_ok : {X E : Type 0} (A B : Type 0) (r : Result X E) → OnOk r A → OnOk r B → OnOk r (A × B)
both_ok A B (Ok x) a b = (a, b)
both_ok A B (Err e) a b = tt

pub if_err : {X E : Type 0} {P Q : E → Type 0} (r : Result X E) → ((e : E) → P e → Q e) → IfErr r P → IfErr r Q
if_err (Ok x) f p = tt
if_err (Err e) f p = f e p

pub on_err : {X E : Type 0} {A B : Type 0} (r : Result X E) → (A → B) → OnErr r A → OnErr r B
on_err (Ok x) f a = tt
on_err (Err e) f a = f a

-- No squitter was ready: a prefix of the lines of those that were given is one of those in the bytes.
pub fed_part : (arrival : ℕ) (order : Option Sorting) (old new : Feeding) (bytes : List ℕ)
    (before after : Option (List ℕ))
    → HasToldText arrival old bytes new (λ came. HasPutPart order came (WroteFront before after)) → old.ready ≡ []
    → HasFedText arrival old bytes new (λ came. HasPutPart order came (WroteFront before after))
fed_part arrival order old new bytes before after (told, has, put) none = (
  has.found,
  has.fed,
  subst (λ l. HasPutPart order l (WroteFront before after))
      (has.told_are ∙ ap (λ l. l ++ told_of_all arrival old.ear has.found) none)
      (part_more order told new.ready before after put),
)

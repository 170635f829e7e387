-- Replies: commands that read no input have one, and it is not `Broken`.
use Rattle.std.proofs.Common.{◌≡◌, ◌≢◌, ◌∙◌, ℕ, List, Result, Ok, Err, MatchResult, ap, subst, sym}
use Rattle.sq_devices.specs.Changes.{Written}
use Rattle.sq_commands.specs.declared.status.Status.{Status}
use Rattle.sq_commands.specs.declared.status.Status.TheVariants.{Good, Broken}
use Rattle.sq_commands.specs.Replies.{IsAnswer, IsReplyTo, IsReported, ReplyParts, answered}

-- a reply is reported as an equal one is
pub reported_as : (reply known : ReplyParts) (status : Status) (w : Written) → reply ≡ known
    → IsReported reply status w → IsReported known status w
reported_as reply known status w is said = subst (λ r. IsReported r status w) is said

-- there is at most one such reply, and its status is not `Broken`
pub record IsSound (Is : ReplyParts → Type 0) : Type 0 where
  pub one : (x y : ReplyParts) → Is x → Is y → x ≡ y
  pub unbroken : (reply : ReplyParts) → Is reply → reply.status ≢ Broken

-- an answer, if there is one text
pub sound_answer : (Is : List ℕ → Type 0) → ((s t : List ℕ) → Is s → Is t → s ≡ t) → IsSound (IsAnswer Is)
sound_answer Is one_text = record {
  one = λ x y (s, s_is, h) (t, t_is, k). h ∙ ap answered (one_text s t s_is t_is) ∙ sym k;
  unbroken = λ reply (text, is, answer) broken.
      let good : Good ≡ Broken = sym (ap (λ (r : ReplyParts). r.status) answer) ∙ broken in
      cc good;
}

module _ {Value Fault : Type 0} (Reads : Result Value Fault → Type 0) (OfValue : Value → ReplyParts → Type 0)
    (of_fault : Fault → ReplyParts) where
  -- the reply to a reading is such
  abbrev IsOf : Result Value Fault → ReplyParts → Type 0
  IsOf reading reply = MatchResult reading (λ value. OfValue value reply) (λ fault. reply ≡ of_fault fault)

  one_of : ((value : Value) → IsSound (OfValue value)) → (reading : Result Value Fault) (x y : ReplyParts)
      → IsOf reading x → IsOf reading y → x ≡ y
  one_of sound (Ok value) x y h k = (sound value).one x y h k
  one_of sound (Err fault) x y h k = h ∙ sym k

  unbroken_of : ((value : Value) → IsSound (OfValue value)) → ((fault : Fault) → (of_fault fault).status ≢ Broken)
      → (reading : Result Value Fault) (reply : ReplyParts) → IsOf reading reply → reply.status ≢ Broken
  unbroken_of sound whole (Ok value) reply is = (sound value).unbroken reply is
  unbroken_of sound whole (Err fault) reply is =
      λ broken. whole fault (sym (ap (λ (r : ReplyParts). r.status) is) ∙ broken)

  -- the reply to a reading, if there is one reading
  pub sound_reply : ((r s : Result Value Fault) → Reads r → Reads s → r ≡ s)
      → ((fault : Fault) → (of_fault fault).status ≢ Broken) → ((value : Value) → IsSound (OfValue value))
      → IsSound (IsReplyTo Reads OfValue of_fault)
  sound_reply one_reading whole sound = record {
    one = λ x y (r, r_is, h) (s, s_is, k).
        one_of sound r x y h (subst (λ t. IsOf t y) (sym (one_reading r s r_is s_is)) k);
    unbroken = λ reply (reading, reads, is). unbroken_of sound whole reading reply is;
  }

-- Two runs with the same reply end alike, unless a failure ended one of them.
use Rattle.std.proofs.Common.{◌≡◌, ◌≢◌, ◌∙◌, List, ℕ, Option, None, Some, false, inl, inr, subst, sym}
use Rattle.std.proofs.lemmas.Bool.{false≢true}
use Rattle.sq_devices.specs.Changes.{Written, WroteLast, WroteOrFailed}
use Rattle.sq_commands.specs.declared.status.Status.{Status}
use Rattle.sq_commands.specs.declared.status.Status.TheVariants.{Broken}
use Rattle.sq_commands.specs.OneRun.{WroteAlike}
use Rattle.sq_commands.specs.Outputs.{Outputs}
use Rattle.sq_commands.specs.Replies.{Got, GotOrFailed, IsDelivered, IsReported, ReplyParts}

-- the run was not broken off, and what it reports was written
pub record IsWhole (status : Status) (o : Outputs) : Type 0 where
  pub unbroken : status ≢ Broken
  pub reported : o.reports.failed ≡ false

-- two runs have one status, and wrote the same
abbrev pub HaveOne : (a b : Status) → (o p : Outputs) → Type 0
HaveOne a b o p = (a ≡ b) × WroteAlike o.output p.output × WroteAlike o.reports p.reports

-- on a sink that has not failed the text was written whole
pub wrote_whole : (w : Written) (text : List ℕ) → w.failed ≡ false → WroteOrFailed w text → WroteLast w text
wrote_whole w text whole (inl wrote) = wrote
wrote_whole w text whole (inr failed) = absurd (false≢true (sym whole ∙ failed.0))

-- two sinks that got one text, or none, are alike
got_alike : (text : Option (List ℕ)) (v w : Written) → Got text v → Got text w → WroteAlike v w
got_alike None v w x y = inl (x, y)
got_alike (Some text) v w x y = inr (text, x, y)

-- a sink that has not failed got its text
got_whole : (text : Option (List ℕ)) (w : Written) → w.failed ≡ false → GotOrFailed text w → Got text w
got_whole None w whole x = x
got_whole (Some text) w whole x = wrote_whole w text whole x

-- two runs that wrote alike, and end with one reply, are alike
pub one_end : (a b : Status) (o p : Outputs) → IsWhole a o → IsWhole b p → (x y : ReplyParts) → x ≡ y
    → WroteAlike o.output p.output → IsReported x a o.reports → IsReported y b p.reports → HaveOne a b o p
one_end a b o p m n x y one wrote said said' =
    let there : IsReported x b p.reports = subst (λ r. IsReported r b p.reports) (sym one) said' in (
      said.0 ∙ sym there.0,
      wrote,
      got_alike x.error o.reports p.reports (got_whole x.error o.reports m.reported said.1)
          (got_whole x.error p.reports n.reported there.1),
    )

-- two deliveries of one reply are alike
pub one_delivery : (a b : Status) (o p : Outputs) → IsWhole a o → IsWhole b p → (reply : ReplyParts)
    → IsDelivered reply a o → IsDelivered reply b p → HaveOne a b o p
unfolding IsDelivered
one_delivery a b o p m n reply (inl x) (inl y) = (
  x.0 ∙ sym y.0,
  got_alike reply.output o.output p.output x.1 y.1,
  got_alike reply.error o.reports p.reports (got_whole reply.error o.reports m.reported x.2)
      (got_whole reply.error p.reports n.reported y.2),
)
one_delivery a b o p m n reply (inl x) (inr y) = absurd (n.unbroken y.0)
one_delivery a b o p m n reply (inr x) y = absurd (m.unbroken x.0)

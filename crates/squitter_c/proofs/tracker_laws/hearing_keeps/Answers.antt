use Rattle.std.proofs.Common.{◌≡◌, OnErr, subst}
use Rattle.sq_track.proofs.Lists.Filters.{filter_none}
use Rattle.sq_track.specs.Held.{present_of}
use Rattle.squitter_c.proofs.tracker_laws.hearing_keeps.Goals as goal

pub returns : goal.returns
returns c moment q old new reply h = (
  h.settings,
  λ fault is. subst (λ r. OnErr r (new ≡ old)) is h.refused,
  λ memory. let wanted = h.memory memory in (wanted.0, filter_none _ (present_of old) wanted.1),
)

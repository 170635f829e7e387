use Rattle.sq_commands.proofs.track.track_with.Goals as goal

pub returns-in-Ok-clause-ran : goal.returns-in-Ok-clause-ran
returns-in-Ok-clause-ran g c = λ some. (
  c.in-Ok.tracker,
  c.run_track_in.new.tracker,
  c.in-Ok.ensures.empty,
  c.in-Ok.ensures.settings,
  (c.run_track_in.result, c.run_track_in.ensures, c.end_of.ensures),
)

use Rattle.std.proofs.Common.{◌∙◌, ap}
use Rattle.sq_commands.specs.declared.formats.Format.TheVariants.{Rows}
use Rattle.sq_commands.proofs.TrackLemmas.{tracked_in}
use Rattle.sq_commands.proofs.track.run_track_in.Goals as goal

pub returns-in-Lines : goal.returns-in-Lines
returns-in-Lines g c = tracked_in _ _ _ _ _ _ _ c.in-Lines.is c.run_track_as.ensures.ran

pub returns-in-Csv : goal.returns-in-Csv
returns-in-Csv g c =
    tracked_in _ _ _ _ _ _ _ (c.in-Rows.is ∙ ap Rows c.in-Csv.is) c.run_track_as-in-Csv.ensures.ran

pub returns-in-Json : goal.returns-in-Json
returns-in-Json g c =
    tracked_in _ _ _ _ _ _ _ (c.in-Rows.is ∙ ap Rows c.in-Json.is) c.run_track_as-in-Json.ensures.ran

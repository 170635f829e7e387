-- True answers: the promise of a log machine of `track` in slow worlds.
use Rattle.std.specs.Prelude.{◌≡◌, List, [], ◌∷◌, Contains, Result, Ok, Err, map}
use Rattle.std.specs.List.{AllZip}
use Rattle.sq_message.specs.declared.received.Received.{Received}
use Rattle.sq_text.specs.declared.faults.LineFault.{LineFault}
use Rattle.sq_log.specs.declared.log.Answer.{Answer as Told}
use Rattle.sq_track.specs.declared.heard.Heard.{Heard}
use Rattle.sq_track.specs.declared.heard.TrackFault.{TrackFault}
use Rattle.sq_track.specs.Held.{Held, StandsFor}
use Rattle.sq_track.specs.History.{History}
use Rattle.sq_track.specs.Tame.{IsSlow, IsSlowForFollowing}
use Rattle.sq_track.specs.Worlds.{Arrival, ArisesFrom, IfHeard, IsTruePlaceHeard, World, received_of}
use Rattle.sq_commands.specs.Heard.{HeardSquitter}

-- these results behind the verdict's, if the verdict is good
abbrev pub with_good : Result HeardSquitter LineFault → List HeardSquitter → List HeardSquitter
with_good (Ok found) later = found ∷ later
with_good (Err fault) later = later

-- the results of the good lines, in order
abbrev pub good_in : List (Told HeardSquitter) → List HeardSquitter
good_in [] = []
good_in (answer ∷ answers) = with_good answer.verdict (good_in answers)

-- the squitters of the good lines
abbrev pub received_in : List (Told HeardSquitter) → List Received
received_in answers = map (λ found. found.timed) (good_in answers)

abbrev pub as_reply : HeardSquitter → Result Heard TrackFault
as_reply found = Ok found.heard

-- the replies to these squitters
abbrev pub heard_in : List (Told HeardSquitter) → List (Result Heard TrackFault)
heard_in answers = map as_reply (good_in answers)

-- The answers are true after this history: in each world that is slow for the tracker and for following, if the history
-- and the good lines came from the world, each `fix` or `followed` is the true place, and no answer is `far`.
abbrev pub AreTrueAfter : Held → History → List (Told HeardSquitter) → Type 0
AreTrueAfter tracker history answers = (world arrivals : World) → ArisesFrom world history
    → IsSlow tracker.window tracker.site world → IsSlowForFollowing tracker.window world
    → ((arrival : Arrival) → Contains arrivals arrival → Contains world arrival)
    → map received_of arrivals ≡ received_in answers → AllZip (IfHeard IsTruePlaceHeard) arrivals (heard_in answers)

-- the answers are true after each history that the tracker represents
abbrev pub AreTrueAnswers : Held → List (Told HeardSquitter) → Type 0
AreTrueAnswers tracker answers =
    (history : History) → StandsFor tracker history → AreTrueAfter tracker history answers

-- The own times of frames: which are believed, and which frames wait until other frames confirm theirs.
use Rattle.std.specs.Prelude.{◌≡◌, ◌++◌, ◌+◌, ◌-◌, ◌≤◌, ◌||◌, ◌&&◌, ℕ, Bool, true, false, List, [], ◌∷◌, length, min, nat_le, nat_lt, not, if◌then◌else◌}
use Rattle.sq_feed.specs.declared.dates.Dates.{Dates}
use Rattle.sq_feed.specs.declared.dates.First.{First}
use Rattle.sq_feed.specs.declared.dates.First.TheVariants.{NoTime, Waits, Believed}
use Rattle.sq_feed.specs.declared.dates.Run.{Run}
use Rattle.sq_feed.specs.declared.dates.Verdict.{Verdict}
use Rattle.sq_feed.specs.declared.dates.Run.TheVariants.{Empty, One, Two, Torn}
use Rattle.sq_feed.specs.declared.message.Timed.{Timed}
use Rattle.sq_feed.specs.Clock.{most}
use Rattle.sq_feed.specs.Times.{Timing, anew_of, gone_on, is_awaited, is_near, told_as}

-- The state: the first frame, the frames that jump, what is added to own times, and the number of breaks behind which
-- the times went back. Frames that wait have their own times (ms).
abbrev pub new_dates : Dates
new_dates = record { first = NoTime; run = Empty; ahead = 0; breaks = 0 }

-- an own time as a timestamp
abbrev pub own : Dates → ℕ → ℕ
own d moment = min (moment + d.ahead) most

-- the frames that wait, in order
abbrev pub first_waiting : First → List Timed
first_waiting NoTime = []
first_waiting (Waits one) = one ∷ []
first_waiting Believed = []

abbrev pub run_waiting : Run → List Timed
run_waiting Empty = []
run_waiting (One a) = a ∷ []
run_waiting (Two a b) = a ∷ b ∷ []
run_waiting (Torn a b) = a ∷ b ∷ []

abbrev pub waiting : Dates → List Timed
waiting d = first_waiting d.first ++ run_waiting d.run

-- There is room for one frame that is given next, the frames that wait, and those that are ready.
abbrev pub HasRoom : (ready : List Timed) → Dates → Type 0
HasRoom ready d = (length ready + length (waiting d) ≤ 4) × (length (waiting d) ≤ 3)

-- a frame with a time of its own came
abbrev pub is_timed_at : First → Bool
is_timed_at NoTime = false
is_timed_at (Waits one) = true
is_timed_at Believed = true

abbrev pub is_timed : Dates → Bool
is_timed d = is_timed_at d.first

-- a time is believed, and no frame waits
abbrev pub is_empty_run : Run → Bool
is_empty_run Empty = true
is_empty_run (One a) = false
is_empty_run (Two a b) = false
is_empty_run (Torn a b) = false

abbrev pub is_calm_at : First → Run → Bool
is_calm_at NoTime run = false
is_calm_at (Waits one) run = false
is_calm_at Believed run = is_empty_run run

abbrev pub is_calm : Dates → Bool
is_calm d = is_calm_at d.first d.run

-- The timestamp that a time is compared with: the latest one, or the first frame's while that waits.
abbrev pub base_at : First → Timing → Dates → ℕ
base_at NoTime t d = t.latest
base_at (Waits one) t d = own d one.moment
base_at Believed t d = t.latest

abbrev pub base_of : Timing → Dates → ℕ
base_of t d = base_at d.first t d

-- the arrivals of a live source show this time; a time that waits shows nothing
abbrev pub is_shown_at : First → Timing → (arrival moment : ℕ) → Bool
is_shown_at NoTime t arrival moment = false
is_shown_at (Waits one) t arrival moment = false
is_shown_at Believed t arrival moment = is_awaited t arrival moment

-- the time goes on with the times that are believed
abbrev pub is_fit : Timing → Dates → (arrival moment : ℕ) → Bool
is_fit t d arrival moment =
    is_near t (base_of t d) (own d moment) || is_shown_at d.first t arrival (own d moment)

-- A run goes ahead if its first time is at or after the one that times are compared with.
abbrev pub is_ahead : Timing → Dates → Timed → Bool
is_ahead t d one = nat_le (base_of t d) (own d one.moment)

-- the times of two frames are near each other
abbrev pub is_beside : Timing → Dates → Timed → ℕ → Bool
is_beside t d last moment = is_near t (own d last.moment) (own d moment)

-- The time is near that of this frame, or it is later, and both go ahead or both go back.
abbrev pub follows : Timing → Dates → Timed → ℕ → Bool
follows t d last moment =
    is_beside t d last moment
    || nat_le (own d last.moment) (own d moment) && (is_ahead t d last || nat_lt (own d moment) (base_of t d))

-- ---- what becomes of a frame

-- the state afterwards; the frames that get timestamps, with their own times; and how many are left out
pub record Judged : Type 0 where
  pub after : Dates
  pub told : List Timed
  pub aside : ℕ

-- a decision about frames, and the state afterwards
pub record IsVerdict (judged : Judged) (verdict : Verdict) (after : Dates) : Type 0 where
  pub after_is : after ≡ judged.after
  pub told_are : verdict.told.items ≡ judged.told
  pub aside_is : verdict.aside ≡ judged.aside

-- the frames that jump wait as this run, and these are left out
abbrev pub waits : Dates → Run → (aside : List Timed) → Judged
waits d run aside = record { after = record d { run = run }; told = []; aside = length aside }

-- these times are believed, these frames are left out, and this run waits
abbrev pub believes : Dates → Run → (told aside : List Timed) → Judged
believes d run told aside = record {
  after = record d { first = Believed; run = run };
  told = told;
  aside = length aside;
}

-- A run that goes back starts anew, if it is before the latest timestamp.
abbrev pub shifted : Timing → Dates → (arrival : ℕ) → Timed → Dates
shifted t d arrival one =
    if nat_le t.latest (own d one.moment) then d
    else record d {
      ahead = min (d.ahead + (anew_of t arrival - own d one.moment)) most;
      breaks = min (d.breaks + 1) most;
    }

-- Frames in succession jump, the first of them `one`, and another confirms them. If they go ahead, the first frame of
-- the source is believed too.
abbrev pub confirmed : Timing → Dates → (arrival : ℕ) → Timed → (told : List Timed) → Run → Judged
confirmed t d arrival one told run =
    if is_ahead t d one then believes d run (first_waiting d.first ++ told) []
    else believes (shifted t d arrival one) run told (first_waiting d.first)

-- A third frame confirms two that follow each other. It is believed with them only if its time is near.
abbrev pub confirmed_by : Timing → Dates → (arrival : ℕ) → (a b one : Timed) → Judged
confirmed_by t d arrival a b one =
    if is_beside t d b one.moment then confirmed t d arrival a (a ∷ b ∷ one ∷ []) Empty
    else confirmed t d arrival a (a ∷ b ∷ []) (One one)

-- the run of two frames
abbrev pub joined : Timing → Dates → (a one : Timed) → Run
joined t d a one = if follows t d a one.moment then Two a one else Torn a one

-- A third frame goes on from the first of two: it is near the first, or it follows the first and not the second.
abbrev pub goes_on_from : Timing → Dates → (a b : Timed) → ℕ → Bool
goes_on_from t d a b moment = is_beside t d a moment || follows t d a moment && not (follows t d b moment)

-- A third frame that does not confirm two takes the place of the second if it goes on from the first. Otherwise it
-- takes the place of the first.
abbrev pub replaced : Timing → Dates → (a b one : Timed) → Judged
replaced t d a b one =
    if goes_on_from t d a b one.moment then waits d (Two a one) (b ∷ []) else waits d (joined t d b one) (a ∷ [])

-- A frame that jumps joins the frames that wait.
abbrev pub longer_run : Run → Timing → Dates → (arrival : ℕ) → Timed → Judged
longer_run Empty t d arrival one = waits d (One one) []
longer_run (One a) t d arrival one = waits d (joined t d a one) []
longer_run (Two a b) t d arrival one =
    if follows t d b one.moment then confirmed_by t d arrival a b one else replaced t d a b one
longer_run (Torn a b) t d arrival one = replaced t d a b one

-- A frame that fits gets its timestamp, and so does the first frame if it waits. Any other frame jumps.
abbrev pub judged_later : Timing → Dates → (arrival : ℕ) → Timed → Judged
judged_later t d arrival one =
    if is_fit t d arrival one.moment then believes d Empty (first_waiting d.first ++ one ∷ []) (run_waiting d.run)
    else longer_run d.run t d arrival one

abbrev pub judged_at : First → Timing → Dates → (arrival : ℕ) → Timed → Judged
judged_at NoTime t d arrival one =
    record { after = record d { first = Waits one }; told = []; aside = 0 }
judged_at (Waits first) t d arrival one = judged_later t d arrival one
judged_at Believed t d arrival one = judged_later t d arrival one

abbrev pub judged : Timing → Dates → (arrival : ℕ) → Timed → Judged
judged t d arrival one = judged_at d.first t d arrival one

-- A clock starts with this frame: its time is a timestamp. Frames that wait are left out.
abbrev pub started : Dates → Timed → Judged
started d one = record {
  after = record d { first = Believed; run = Empty; ahead = 0 };
  told = one ∷ [];
  aside = length (waiting d);
}

-- ---- at the end

-- A run that goes ahead gets timestamps, and so does a run of two frames that goes back. A single frame that goes back
-- is left out, and so are two frames that do not follow each other.
abbrev pub ended_run : Run → Timing → Dates → Judged
ended_run Empty t d = believes d Empty (first_waiting d.first) []
ended_run (One a) t d =
    if is_ahead t d a then believes d Empty (first_waiting d.first ++ a ∷ []) []
    else believes d Empty (first_waiting d.first) (a ∷ [])
ended_run (Two a b) t d = confirmed t d t.arrival a (a ∷ b ∷ []) Empty
ended_run (Torn a b) t d = believes d Empty (first_waiting d.first) (a ∷ b ∷ [])

abbrev pub ended_at : First → Timing → Dates → Judged
ended_at NoTime t d = waits d Empty (run_waiting d.run)
ended_at (Waits one) t d = ended_run d.run t d
ended_at Believed t d = ended_run d.run t d

abbrev pub ended : Timing → Dates → Judged
ended t d = ended_at d.first t d

-- ---- timestamps

-- the state after these frames, once their own times are believed
abbrev pub gone_all : Dates → ℕ → Timing → List Timed → Timing
gone_all d arrival t [] = t
gone_all d arrival t (one ∷ more) = gone_all d arrival (gone_on t (own d one.moment) arrival) more

-- the frames with their timestamps
abbrev pub timed_all : Dates → ℕ → Timing → List Timed → List Timed
timed_all d arrival t [] = []
timed_all d arrival t (one ∷ more) =
    record { moment = told_as t (own d one.moment); frame = one.frame }
    ∷ timed_all d arrival (gone_on t (own d one.moment) arrival) more

-- What the devices of the console hold.
use Rattle.std.specs.Prelude.{◌≡◌, ◌+◌, ℕ, Bool, List, Option}
use Rattle.std.specs.Io.KnownBytes.{Consumes}
use Rattle.std.specs.Io.Buffered.{reader_remaining}
use Rattle.std.specs.declared.io.traits.Write.{Ghosts}
use Rattle.sq_devices.specs.declared.prompt.PromptInput.{PromptInput}
use Rattle.sq_devices.specs.declared.prompt.PromptOutput.{PromptOutput}

-- the bytes of the input's buffer and then those of its reader, if the reader reports them
abbrev pub to_come_of : {R W : Type 0} {g : Ghosts W} → (R → Option (List ℕ)) → PromptInput R W g → Option (List ℕ)
to_come_of remaining s = reader_remaining remaining s.reader

-- the number of gets that can still succeed
abbrev pub gets_of : {R W : Type 0} {g : Ghosts W} → PromptInput R W g → ℕ
gets_of s = s.gets

-- whether a get has failed
abbrev pub get_failed : {R W : Type 0} {g : Ghosts W} → PromptInput R W g → Bool
get_failed s = s.failed

-- whether a put or a finish has failed
abbrev pub put_failed : {W : Type 0} {g : Ghosts W} → PromptOutput W g → Bool
put_failed s = s.failed

-- how often the output was finished
abbrev pub finishes_of : {W : Type 0} {g : Ghosts W} → PromptOutput W g → ℕ
finishes_of s = s.finishes

-- one get returned these bytes: they are the next bytes of the buffer and the reader, if it reports its bytes, and one
-- get was used up
abbrev pub IsGiven : {R W : Type 0} {g : Ghosts W} → (R → Option (List ℕ)) → PromptInput R W g → List ℕ
    → PromptInput R W g → Type 0
IsGiven remaining old bytes new =
    Consumes (to_come_of remaining old) (to_come_of remaining new) bytes × (new.gets + 1 ≡ old.gets)

-- one put took these bytes: no finish was counted (the output does not report what the writer has)
abbrev pub IsTaken : {W : Type 0} {g : Ghosts W} → PromptOutput W g → List ℕ → PromptOutput W g → Type 0
IsTaken old bytes new = new.finishes ≡ old.finishes

-- one finish was counted
abbrev pub IsFinish : {W : Type 0} {g : Ghosts W} → PromptOutput W g → PromptOutput W g → Type 0
IsFinish old new = new.finishes ≡ old.finishes + 1

-- What the devices over a reader and a writer hold.
use Rattle.std.specs.Prelude.{◌≡◌, ◌+◌, ℕ, Bool, List, Option}
use Rattle.std.specs.Io.KnownBytes.{Appends, Consumes, Keeps}
use Rattle.sq_devices.specs.declared.readers.Reading.{Reading}
use Rattle.sq_devices.specs.declared.writers.Writing.{Writing}

-- the reader of a source
abbrev pub reader_of : {R : Type 0} → Reading R → R
reader_of s = s.reader

-- the number of gets that can still succeed
abbrev pub gets_of : {R : Type 0} → Reading R → ℕ
gets_of s = s.gets

-- whether a get has failed
abbrev pub get_failed : {R : Type 0} → Reading R → Bool
get_failed s = s.failed

-- the writer of a sink
abbrev pub writer_of : {W : Type 0} → Writing W → W
writer_of s = s.writer

-- whether a put or a finish has failed
abbrev pub put_failed : {W : Type 0} → Writing W → Bool
put_failed s = s.failed

-- how often a sink was finished
abbrev pub finishes_of : {W : Type 0} → Writing W → ℕ
finishes_of s = s.finishes

-- one get returned these bytes: they are the next bytes of the reader, if it reports its bytes, and one get was used up
abbrev pub IsGiven : {R : Type 0} → (R → Option (List ℕ)) → Reading R → List ℕ → Reading R → Type 0
IsGiven remaining old bytes new =
    Consumes (remaining old.reader) (remaining new.reader) bytes × (new.gets + 1 ≡ old.gets)

-- one put took these bytes: they follow those of the writer, if it reports its bytes, and no finish was counted
abbrev pub IsTaken : {W : Type 0} → (W → Option (List ℕ)) → Writing W → List ℕ → Writing W → Type 0
IsTaken contents old bytes new =
    Appends (contents old.writer) (contents new.writer) bytes × (new.finishes ≡ old.finishes)

-- one finish was counted, and the writer's bytes are unchanged, if it reports them
abbrev pub IsFinish : {W : Type 0} → (W → Option (List ℕ)) → Writing W → Writing W → Type 0
IsFinish contents old new =
    Keeps (contents old.writer) (contents new.writer) × (new.finishes ≡ old.finishes + 1)

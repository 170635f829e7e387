-- A text that a sink takes in one put, or in more.
use Rattle.std.proofs.Common.{◌≡◌, ◌++◌, ◌∙◌, ℕ, List, Option, Result, Ok, Err, OnErr, ap, append_assoc, arith, drop}
use Rattle.std.proofs.Common.{length, subst, sym, take, take-append-drop}
use Rattle.std.specs.Io.KnownBytes.{Appends}
use Rattle.std.proofs.lemmas.List.{take_all}
use Rattle.sq_devices.specs.Calls.{HasPut}
use Rattle.sq_devices.specs.Device.{WroteFront}
use Rattle.sq_devices.specs.declared.device.Sink.{Ghosts as SinkGhosts}
use Rattle.sq_devices.proofs.Puts.{HasPut-one, HasPut-trans}
use Rattle.sq_log.proofs.Running.{AppendsOrHides-after}

pub on_err : {X E : Type 0} {P Q : Type 0} (result : Result X E) → (P → Q) → OnErr result P → OnErr result Q
on_err (Ok x) turn of = tt
on_err (Err e) turn of = turn of

-- one put took the whole text
pub put_whole : {K : Type 0} (k : SinkGhosts K) (a b : K) (text : List ℕ) (count : ℕ) → count ≡ length text
    → Appends (k.written a) (k.written b) (take count text) → k.Took a (take count text) b → HasPut k a b text
put_whole k a b text count all grown took =
    subst (HasPut k a b) (take_all count text (omega (arith, all)))
    (HasPut-one k a b (take count text) grown took)

-- one put took the first bytes, and the rest was put after them
pub put_rest : {K : Type 0} (k : SinkGhosts K) (a b c : K) (text : List ℕ) (count : ℕ)
    → Appends (k.written a) (k.written b) (take count text) → k.Took a (take count text) b
    → HasPut k b c (drop count text) → HasPut k a c text
put_rest k a b c text count grown took rest =
    subst (HasPut k a c) (take-append-drop count text)
    (HasPut-trans k a b c (take count text) (drop count text) (HasPut-one k a b (take count text) grown took) rest)

-- the first bytes were put, and then a prefix of the rest
pub wrote_rest : (a b c : Option (List ℕ)) (text : List ℕ) (count : ℕ) → Appends a b (take count text)
    → WroteFront b c (drop count text) → WroteFront a c text
wrote_rest a b c text count first (part, (rest, is), grown) =
    let front : List ℕ = take count text in (
      front ++ part,
      (
        rest,
        sym (take-append-drop count text) ∙ ap (λ l. front ++ l) is ∙ sym (append_assoc front part rest),
      ),
      AppendsOrHides-after a b c front part first grown,
    )

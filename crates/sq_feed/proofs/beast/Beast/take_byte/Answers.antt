use Rattle.std.proofs.Common.{◌≡◌, ◌∙◌, ◌++◌, ◌∷◌, ap, sym, refl, false}
use Rattle.sq_feed.specs.Stream.{Byte, Start, found_of}
use Rattle.sq_feed.specs.Begun.{Begun, Gives, begun_symbols}
use Rattle.sq_feed.proofs.Steps.{byte_hold, doubled_hold, escape_hold, start_hold}
use Rattle.sq_feed.proofs.beast.Beast.take_byte.Goals as goal

pub returns-then-byte-eq-ESCAPE-clause-held : goal.returns-then-byte-eq-ESCAPE-clause-held
unfolding Gives
returns-then-byte-eq-ESCAPE-clause-held c =
    doubled_hold c.args.self.now c.add.new.self c.args.byte _
    (sym (ap (λ (v : Begun). v.is_escaped) c.self.view_is) ∙ c.if-self.true) c.add.ensures.same
    c.if-byte-eq-ESCAPE.true
    (λ more. ap (λ (v : Begun). found_of (begun_symbols v.kind v.held ++ Byte c.args.byte ∷ more)) (sym c.self.view_is)
    ∙ c.add.ensures.gives more)

pub returns-then-self-clause-held : goal.returns-then-self-clause-held
unfolding Gives
returns-then-self-clause-held c =
    start_hold c.args.self.now c.start.new.self c.args.byte _
    (sym (ap (λ (v : Begun). v.is_escaped) c.self.view_is) ∙ c.if-self.true) c.start.ensures.same
    c.if-byte-eq-ESCAPE.false
    (λ more. ap (λ (v : Begun). found_of (begun_symbols v.kind v.held
    ++ Start c.args.byte ∷ more)) (sym c.self.view_is)
    ∙ c.start.ensures.gives more)

pub returns-then-byte-eq-ESCAPE-2-clause-held : goal.returns-then-byte-eq-ESCAPE-2-clause-held
returns-then-byte-eq-ESCAPE-2-clause-held c =
    escape_hold c.args.self.now _ c.args.byte
    (sym (ap (λ (v : Begun). v.is_escaped) c.self.view_is) ∙ c.if-self.false) refl c.if-byte-eq-ESCAPE-2.true
    (ap (λ (v : Begun). v.kind) c.self.view_is) (ap (λ (v : Begun). v.held) c.self.view_is)

pub returns-clause-held : goal.returns-clause-held
returns-clause-held c =
    let was : c.args.self.now.is_escaped ≡ false =
    sym (ap (λ (v : Begun). v.is_escaped) c.self.view_is) ∙ c.if-self.false in
    byte_hold c.args.self.now c.add-2.new.self c.args.byte _ was (c.add-2.ensures.same ∙ was)
    c.if-byte-eq-ESCAPE-2.false c.add-2.ensures.gives

use Rattle.std.proofs.Common.{refl}
use Rattle.sq_angle.specs.declared.read.AngleFault.TheVariants as angles
use Rattle.sq_message.specs.declared.place.PlaceFault.TheVariants as places
use Rattle.sq_text.specs.declared.faults.LineFault.TheVariants as lines
use Rattle.squitter_c.specs.declared.faults.Reason.TheVariants.{Line, Place, Angle, NoPosition, NoHead, NoAngle}
use Rattle.squitter_c.specs.declared.faults.Reason.TheVariants.{NoLatitude, NoFeet, NoParity, Memory, NoLimit, NoTracker}
use Rattle.squitter_c.specs.declared.faults.Reason.TheVariants.{LongLog, NoFormat, Entry}
use Rattle.squitter_c.specs.Texts.{EachText, told_text}
use Rattle.squitter_c.proofs.laws.each_text.Goals as goal

each_text : EachText
unfolding told_text
each_text (Line lines.Wrap) = refl
each_text (Line lines.Short) = refl
each_text (Line (lines.Length n)) = refl
each_text (Line (lines.Digit place)) = refl
each_text (Line (lines.NotDf17 format)) = refl
each_text (Line (lines.Parity remainder)) = refl
each_text (Line lines.LongLine) = refl
each_text (Line lines.Moment) = refl
each_text (Line (lines.MomentBack last)) = refl
each_text (Line lines.Full) = refl
each_text (Place places.NotPosition) = refl
each_text (Place places.OtherAddress) = refl
each_text (Place places.OtherKind) = refl
each_text (Place places.SameParity) = refl
each_text (Place places.NoSite) = refl
each_text (Place places.OutOfRange) = refl
each_text (Place (places.ZoneCounts even odd)) = refl
each_text (Angle angles.NotANumber) = refl
each_text (Angle angles.TooManyDecimals) = refl
each_text (Angle angles.OutOfRange) = refl
each_text NoPosition = refl
each_text NoHead = refl
each_text NoAngle = refl
each_text NoLatitude = refl
each_text NoFeet = refl
each_text NoParity = refl
each_text Memory = refl
each_text NoLimit = refl
each_text NoTracker = refl
each_text LongLog = refl
each_text NoFormat = refl
each_text (Entry index) = refl

pub returns : goal.returns
returns c = each_text

use Rattle.sq_angle.proofs.Coprime.{one_lowest_form, one_lowest_form_of_angles}
use Rattle.sq_angle.proofs.pins.one_lowest_form.Goals as goal

pub returns-clause-fractions : goal.returns-clause-fractions
returns-clause-fractions c = one_lowest_form

pub returns-clause-angles : goal.returns-clause-angles
returns-clause-angles c = one_lowest_form_of_angles

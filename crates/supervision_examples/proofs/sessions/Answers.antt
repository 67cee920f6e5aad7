use Rattle.std.proofs.Common.{refl}
use Rattle.supervision_examples.proofs.sessions.Goals as goal

pub returns : goal.returns
returns c = record {
  opens = refl;
  blo = (refl, refl);
  begins = (refl, refl);
  ends = (refl, refl);
  controlled = (refl, refl);
  uncontrolled = (refl, refl);
  hardware = (refl, refl);
  resets = (refl, refl);
  expires = (refl, refl);
  leaves = refl;
  short_range = refl;
  long_range = refl;
  full_body = refl;
  long_body = refl;
}

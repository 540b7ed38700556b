use Rattle.certificate3.proofs.limits.gate_fits.Goals as goal

pub returns : goal.returns
returns c = record {
  lhs = rw (← c.number-lhs.ensures) c.number-lhs.type_inv;
  rhs0 = rw (← c.number-rhs0.ensures) c.number-rhs0.type_inv;
  rhs1 = rw (← c.number-rhs1.ensures) c.number-rhs1.type_inv;
}

use Rattle.certificate3.proofs.limits.latch_fits.Goals as goal

pub returns : goal.returns
returns c = record {
  lit = rw (← c.number-lit.ensures) c.number-lit.type_inv;
  next = rw (← c.number-next.ensures) c.number-next.type_inv;
  reset = rw (← c.number-reset.ensures) c.number-reset.type_inv;
}

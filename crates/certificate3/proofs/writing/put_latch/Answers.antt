use Rattle.certificate3.proofs.writing.put_latch.Goals as goal

pub returns-clause-puts : goal.returns-clause-puts
returns-clause-puts g c =
    rw (c.from.ensures, c.from-2.ensures, c.from-3.ensures) at c.put_three.ensures.puts

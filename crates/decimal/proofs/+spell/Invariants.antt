use Rattle.decimal.proofs.+spell.Given as goal

abbrev pub decreases-spell : goal.decreases-spell
decreases-spell l = l.x

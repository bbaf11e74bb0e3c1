-- One digit less each time.
use Rattle.http_front.proofs.reply.+put_decimal.Given as goal

abbrev pub decreases-put_decimal : goal.decreases-put_decimal
decreases-put_decimal l = l.number

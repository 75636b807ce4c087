use Rattle.wopi_headers.proofs.reading.text_of.Goals as goal

pub returns-in-Err-Bad : goal.returns-in-Err-Bad
returns-in-Err-Bad c text reads = c.in-Err-Bad.ensures.no_reading (λ is. let other = c.in-Err-Bad.field-0-is in cc) text reads

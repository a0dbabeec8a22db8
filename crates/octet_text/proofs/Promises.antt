-- The promises about whole texts.
use Rattle.octet_text.proofs.Grammar.{reads_hexadecimal_text, comment_lines_do_not_matter}
use Rattle.octet_text.proofs.Faults.{faults_stand_where_told}

pub ruleset whole_texts = (reads_hexadecimal_text, comment_lines_do_not_matter, faults_stand_where_told)

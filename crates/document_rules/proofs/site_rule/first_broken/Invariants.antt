use Rattle.std.proofs.Common.{◌≡◌, drop, map}
use Rattle.schema_rules.specs.First.{first_of}
use Rattle.document_rules.specs.Views.{site_data}
use Rattle.document_rules.proofs.site_rule.first_broken.Given as goal

abbrev pub invariant-loop-site : goal.invariant-loop-site
invariant-loop-site g l = first_of (g.R.SiteRule.breaks l.rule) (map site_data (drop l.site-index l.sites)) ≡ first_of (g.R.SiteRule.breaks l.rule) (map site_data l.sites)

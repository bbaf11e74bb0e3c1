use Rattle.plan_model.proofs.SoundSettings.{setting_sound}
use Rattle.plan_model.proofs.laws.sound_settings.Goals as goal

pub returns : goal.returns
returns c = setting_sound

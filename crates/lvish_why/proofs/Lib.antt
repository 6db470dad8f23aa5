mod There
